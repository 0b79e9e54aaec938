use Rattle.std.proofs.Common.{◌≡◌, ap, sym, subst, ◌∙◌}
use Rattle.bus_trace.specs.Feeding.{Reader, ReaderIs}
use Rattle.bus_trace.specs.Runs.{stream_of}
use Rattle.bus_trace.specs.Pieces.{IsPending}
use Rattle.bus_trace.specs.declared.stage.Stage.{Stage}
use Rattle.bus_trace.specs.declared.stage.Stage.TheVariants.{Open}
use Rattle.bus_trace.proofs.PieceLaws.{pending_is}
use Rattle.bus_trace.proofs.reader.TraceReader.pending.Goals as goal

pub returns-clause-behind : goal.returns-clause-behind
returns-clause-behind c =
    let open_is : c.self.inside.stage ≡ Open = ap (λ (r : Reader). r.stage) c.self.view_is ∙ c.requires in
    let here = pending_is c.self.inside.walk (subst (λ (s : Stage). ReaderIs s c.self.inside.walk) open_is c.self.invariant) in
    subst (λ (r : Reader). IsPending (stream_of r.at) c.pending.result.now) c.self.view_is
    (subst (IsPending (stream_of c.self.inside.walk)) (sym c.pending.ensures.value) here)
