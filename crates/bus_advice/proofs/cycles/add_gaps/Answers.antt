use Rattle.std.proofs.Common.{arith, ap, length}
use Rattle.std.specs.Option.{option_to_list}
use Rattle.bus_regime.proofs.GapPlaces.{turn_in}
use Rattle.bus_table.specs.Turns.{turn_order}
use Rattle.bus_advice.specs.Advices.{gap_advice}
use Rattle.bus_advice.proofs.TurnSteps.{one_more, all_turned}
use Rattle.bus_advice.proofs.cycles.add_gaps.Goals as goal

pub gap_advice-requires-clause-among : goal.gap_advice-requires-clause-among
gap_advice-requires-clause-among c = turn_in c.args.table.now c.loop-k.k c.turn_at-sender.result.now c.turn_at-sender.ensures

pub loop-k-preserved : goal.loop-k-preserved
loop-k-preserved c =
    one_more (gap_advice c.args.table.now) (turn_order c.args.table.now) c.loop-k.k c.turn_at-sender.result.now c.args.advices.now.items
    c.loop-k.advices.items c.add.new.advices.items (option_to_list c.gap_advice.result) c.turn_at-sender.ensures c.loop-k.invariant
    c.in_ok-add.ensures (ap option_to_list c.gap_advice.ensures)

pub returns : goal.returns
returns c =
    all_turned (gap_advice c.args.table.now) c.args.table.now c.loop-k.k c.args.advices.now.items c.loop-k.advices.items
    (omega (arith, c.loop-k-test.false, ap length c.senders-k-end.ensures.value)) c.loop-k.invariant
