use Rattle.std.proofs.Common.{arith, refl, ap, ◌∙◌, sym}
use Rattle.std.specs.List.{list_any}
use Rattle.std.proofs.lemmas.List.{take_all}
use Rattle.bus_dump.specs.Signals.{is_of}
use Rattle.bus_dump.proofs.TouchLemmas.{seen_more}
use Rattle.bus_dump.proofs.ValueLemmas.{no_seen}
use Rattle.bus_dump.proofs.touched.touch_seen.Goals as goal

pub loop-one-init : goal.loop-one-init
loop-one-init c n h e = (e, refl)

pub loop-one-preserved : goal.loop-one-preserved
loop-one-preserved c =
    seen_more c.args.touched.now c.loop-one.touched c.args.seen.now c.loop-one.one-index no_seen c.loop-one-test.true (omega arith) c.loop-one.invariant

pub returns : goal.returns
returns c n h e =
    let so = c.loop-one.invariant n h e in
    (so.0, ap (list_any (is_of n)) (sym (take_all c.loop-one.one-index c.args.seen.now c.loop-one-test.false)) ∙ so.1)
