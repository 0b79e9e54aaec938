use Rattle.std.proofs.Common.{◌+◌, arith, ap, ◌∙◌, length}
use Rattle.serde_json.specs.View.{view}
use Rattle.bus_table.specs.Turns.{turn_order}
use Rattle.bus_table.proofs.TurnLaws.{order_length}
use Rattle.bus_facts.specs.Values.{count}
use Rattle.bus_facts.proofs.Pushing.{turn_step, turn_end}
use Rattle.bus_facts.proofs.senders.turn_values.Goals as goal

pub loop-k-preserved : goal.loop-k-preserved
loop-k-preserved c = record {
  all = turn_step c.args.table.now c.args.pace (turn_order c.args.table.now) c.loop-k.before c.loop-k.k (view c.from-gap.result) c.turn_at-sender.result.now
      c.in_ok-sender_value.field-0 c.loop-k.values.items c.push.new.self.items _ c.turn_at-sender.ensures
      (c.from-gap.ensures ∙ ap (λ n. count (c.loop-k.before + n)) c.tg.ensures.value) c.in_ok-sender_value.ensures c.in_ok-push.ensures.items c.loop-k.invariant.all;
  short = omega arith;
}

pub returns : goal.returns
returns c =
    turn_end c.args.table.now c.args.pace (turn_order c.args.table.now) c.loop-k.before c.loop-k.k c.loop-k.values.items _
    (omega (arith, c.loop-k-test.false, order_length c.args.table.now, ap length c.senders-k-end.ensures.value)) c.loop-k.invariant.all
