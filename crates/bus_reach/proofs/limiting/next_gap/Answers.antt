use Rattle.std.proofs.Common.{◌≤◌, arith, sym, ap, ◌∙◌, length}
use Rattle.bus_table.specs.Turns.{turn_order}
use Rattle.bus_table.proofs.TurnLaws.{order_length}
use Rattle.bus_table.proofs.ValidLaws.{valid_facts}
use Rattle.bus_reach.proofs.LimitLemmas.{next_at, none_at}
use Rattle.bus_reach.proofs.limiting.next_gap.Goals as goal

pub overflow_add-k : goal.overflow_add-k
overflow_add-k c =
    let few : length c.args.table.now.senders ≤ 128 = (valid_facts c.args.table.now c.senders-count.ensures.valid).few in
    omega (arith, c.requires.place)

pub returns-then-k-count : goal.returns-then-k-count
returns-then-k-count c =
    c.tg.ensures.value ∙ sym (next_at c.args.table.now.sg (turn_order c.args.table.now) c.args.k c.turn_at.result.now c.turn_at.ensures)

pub returns-else-k-count : goal.returns-else-k-count
returns-else-k-count c =
    c.sg.ensures.value ∙ sym (none_at c.args.table.now.sg (turn_order c.args.table.now) c.args.k
    (omega (arith, c.if-k-count.false, order_length c.args.table.now, ap length c.senders-count.ensures.value)))
