use Rattle.std.proofs.Common.{List, ℕ, arith, ap, length, sym, subst}
use Rattle.bus_outer.specs.Texts.{Adds}
use Rattle.bus_outer.proofs.TextLaws.{◌▸◌}
use Rattle.bus_table.specs.Turns.{turn_order}
use Rattle.bus_table.proofs.TurnLaws.{order_length}
use Rattle.bus_explain.specs.Senders.{turn_row}
use Rattle.bus_explain.proofs.OrderLemmas.{all_lines, next_line}
use Rattle.bus_explain.proofs.senders.put_turns.Goals as goal

pub loop-k-preserved : goal.loop-k-preserved
loop-k-preserved g c =
    let next = next_line turn_row (turn_order c.args.table.now) c.loop-k.k c.turn_at.result.now
    (omega (arith, c.loop-k-test.true, order_length c.args.table.now, ap length c.senders-k-end.ensures.value)) c.turn_at.ensures in
    subst (λ (t : List ℕ). Adds g.K.Sink.held g.K.Sink.faults c.args.sink.now c.put_turn.new.sink c.args.text.now c.put_turn.new.text t) (sym next)
    (c.loop-k.invariant ▸ c.put_turn.ensures)

pub returns : goal.returns
returns g c =
    let all = all_lines turn_row (turn_order c.args.table.now) c.loop-k.k
    (omega (arith, c.loop-k-test.false, c.loop-k.auto.k-end, order_length c.args.table.now, ap length c.senders-k-end.ensures.value)) in
    subst (λ (t : List ℕ). Adds g.K.Sink.held g.K.Sink.faults c.args.sink.now c.loop-k.sink c.args.text.now c.loop-k.text t) all c.loop-k.invariant
