use Rattle.std.proofs.Common.{arith}
use Rattle.bus_vectors.proofs.ItemLemmas.{rounds_next, whole_items_are}
use Rattle.bus_vectors.proofs.items.items.Goals as goal

pub loop-round-preserved : goal.loop-round-preserved
loop-round-preserved c =
    rounds_next c.args.number c.loop-round.round c.loop-round.items.items c.add_round.new.items.items c.in_ok-add_round.ensures
    c.loop-round.invariant

pub invariant_of-result : goal.invariant_of-result
invariant_of-result c =
    whole_items_are c.args.number c.loop-round.round c.round_count-round-end.result c.loop-round.items.items
    c.round_count-round-end.ensures.count (omega (arith, c.loop-round-test.false, c.loop-round.auto.round-end)) c.loop-round.invariant
