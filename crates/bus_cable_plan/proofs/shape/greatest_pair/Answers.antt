use Rattle.std.proofs.Common.{arith, ap, ◌≡◌, ◌≤◌, length, subst, sym}
use Rattle.bus_table.specs.Turns.{turn_order}
use Rattle.bus_table.proofs.TurnLaws.{order_length}
use Rattle.bus_cable_plan.specs.Shapes.{Pair, greatest_pair}
use Rattle.bus_cable_plan.proofs.Steps.{pair_step, pair_end, greater_small, sender_tg}
use Rattle.bus_cable_plan.proofs.shape.greatest_pair.Goals as goal

pub loop-k-preserved : goal.loop-k-preserved
loop-k-preserved c =
    let tg : c.tg-behind.result ≤ 256 = sender_tg c.tg-behind.result c.turn_at-in-loop-k.result.now c.tg-behind.ensures.value c.tg-behind.ensures.ranges in
    let inv = c.loop-k.invariant in
    let small = greater_small 256 c.loop-k.best (record { before = c.loop-k.before; behind = c.tg-behind.result })
    inv.best_before inv.best_behind inv.before tg in
    record {
      same = pair_step (turn_order c.args.table.now) c.loop-k.k c.turn_at-in-loop-k.result.now (greatest_pair (turn_order c.args.table.now))
          c.loop-k.best c.greater_pair-best.result c.tg-first.result c.loop-k.before c.tg-behind.result c.turn_at-in-loop-k.ensures
          c.tg-behind.ensures.value c.greater_pair-best.ensures c.loop-k.invariant.same;
      before = tg;
      best_before = subst (λ (p : Pair). p.before ≤ 256) (sym c.greater_pair-best.ensures) small.0;
      best_behind = subst (λ (p : Pair). p.behind ≤ 256) (sym c.greater_pair-best.ensures) small.1;
    }

pub returns-clause-value : goal.returns-clause-value
returns-clause-value c =
    let same : length c.senders-n.result.now ≡ length c.args.table.now.senders = ap length c.senders-n.ensures.value in
    let many = order_length c.args.table.now in
    pair_end (turn_order c.args.table.now) c.loop-k.k (greatest_pair (turn_order c.args.table.now)) c.loop-k.best c.greater_pair.result
    c.tg-first.result c.loop-k.before (omega (arith, same, many, c.loop-k-test.false)) c.loop-k.invariant.same c.greater_pair.ensures
