use Rattle.std.proofs.Common.{arith, ap, refl, length}
use Rattle.bus_regime.proofs.GapPlaces.{turn_in}
use Rattle.bus_table.specs.Turns.{turn_order}
use Rattle.bus_advice.specs.Advices.{least_advices}
use Rattle.bus_advice.proofs.TurnSteps.{one_more, all_turned}
use Rattle.bus_advice.proofs.cycles.add_least.Goals as goal

pub add_lines-requires-clause-among : goal.add_lines-requires-clause-among
add_lines-requires-clause-among c = turn_in c.args.table.now c.loop-k.k c.turn_at.result.now c.turn_at.ensures

pub loop-k-preserved : goal.loop-k-preserved
loop-k-preserved c =
    one_more (least_advices c.args.table.now) (turn_order c.args.table.now) c.loop-k.k c.turn_at.result.now c.args.advices.now.items
    c.loop-k.advices.items c.add_lines.new.advices.items (least_advices c.args.table.now c.turn_at.result.now) c.turn_at.ensures
    c.loop-k.invariant c.in_ok-add_lines.ensures refl

pub returns : goal.returns
returns c =
    all_turned (least_advices c.args.table.now) c.args.table.now c.loop-k.k c.args.advices.now.items c.loop-k.advices.items
    (omega (arith, c.loop-k-test.false, ap length c.senders-k-end.ensures.value)) c.loop-k.invariant
