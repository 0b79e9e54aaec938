use Rattle.std.proofs.Common.{arith, ap, length}
use Rattle.bus_table.specs.Turns.{turn_order}
use Rattle.bus_table.proofs.TurnLaws.{order_length}
use Rattle.bus_tool.proofs.ReportTexts.{values_next, values_whole}
use Rattle.bus_tool.proofs.report.sender_values.Goals as goal

pub loop-k-preserved : goal.loop-k-preserved
loop-k-preserved c =
    values_next (turn_order c.args.table.now) c.loop-k.k c.turn_at.result.now c.in_ok-sender_value.field-0 c.loop-k.values.items
    c.push.new.self.items (omega (arith, c.loop-k-test.true, order_length c.args.table.now, ap length c.senders-count.ensures.value))
    c.turn_at.ensures c.in_ok-sender_value.ensures c.in_ok-push.ensures.items c.loop-k.invariant

pub returns : goal.returns
returns c =
    values_whole (turn_order c.args.table.now) c.loop-k.k c.loop-k.values.items
    (omega (arith, c.loop-k-test.false, c.loop-k.auto.k-end, order_length c.args.table.now, ap length c.senders-count.ensures.value))
    c.loop-k.invariant
