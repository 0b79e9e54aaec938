use Rattle.std.proofs.Common.{◌≡◌, ◌++◌, arith, length, subst, refl}
use Rattle.bus_trace.specs.declared.reason.TraceReason.TheVariants.{Long}
use Rattle.bus_trace.specs.States.{text_of}
use Rattle.bus_trace.specs.Runs.{Standing, Going, Refused, run, stream_of}
use Rattle.bus_trace.proofs.Walks.{keep_long, keep_gives}
use Rattle.bus_trace.proofs.walk.Walk.keep.Goals as goal

pub returns-then-bytes-len : goal.returns-then-bytes-len
returns-then-bytes-len c =
    let P : Standing → Type 0 = λ old. run old c.args.bytes.now ≡ Refused (length (text_of old.state)) Long in (
      refl,
      subst P c.self.view_is
          (keep_long c.self.inside.draft c.self.inside.line.items c.args.bytes.now c.requires c.self.invariant.short
          (omega (arith, c.self.inside.line.ok.0))),
    )

pub returns : goal.returns
returns c =
    let mid : Standing = record { state = c.self.inside.draft; line = c.extend_from_slice.new.self.items } in
    let P : Standing → Type 0 = λ old. (run old c.args.bytes.now ≡ Going mid) × (stream_of mid ≡ stream_of old ++ c.args.bytes.now) in
    subst P c.self.view_is
    (keep_gives c.self.inside.draft c.self.inside.line.items c.args.bytes.now c.extend_from_slice.new.self.items c.requires
    (omega (arith, c.self.inside.line.ok.0)) c.in_ok-extend_from_slice.ensures.items)
