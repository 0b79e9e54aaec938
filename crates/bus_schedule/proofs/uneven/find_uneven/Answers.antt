use Rattle.std.proofs.Common.{ap, sym, ◌∙◌, arith, length, Some, None}
use Rattle.bus_table.specs.Turns.{turn_order}
use Rattle.bus_schedule.specs.Uneven.{count_of as number_of_messages}
use Rattle.bus_schedule.proofs.UnevenLemmas.{still_same, now_differs, never_differs, even_of}
use Rattle.bus_schedule.proofs.uneven.find_uneven.Goals as goal

pub returns-then-other_count-one_count-clause-value : goal.returns-then-other_count-one_count-clause-value
returns-then-other_count-one_count-clause-value c =
    ap (λ n. Some (record { one = c.number_at-one.result; one_count = n; other = c.number_at-other.result; other_count = c.count_of-other_count.result })) c.count_of-one_count.ensures
    ∙ ap (λ n. Some (record { one = c.number_at-one.result; one_count = number_of_messages c.args.hands.now c.number_at-one.result; other = c.number_at-other.result; other_count = n })) c.count_of-other_count.ensures
    ∙ now_differs c.args.hands.now (turn_order c.args.table.now) c.number_at-one.result c.loop-k.k c.number_at-other.result c.number_at-one.ensures c.number_at-other.ensures
    (λ e. c.if-other_count-one_count.true (c.count_of-other_count.ensures ∙ e ∙ sym c.count_of-one_count.ensures)) c.loop-k.invariant.1

pub returns-then-other_count-one_count-clause-even : goal.returns-then-other_count-one_count-clause-even
returns-then-other_count-one_count-clause-even c = even_of c.args.table.now c.args.hands.now _ (returns-then-other_count-one_count-clause-value c) c.senders-senders.ensures.valid c.requires.dealt

pub loop-k-preserved : goal.loop-k-preserved
loop-k-preserved c = (
  omega arith,
  still_same c.args.hands.now (turn_order c.args.table.now) c.number_at-one.result c.loop-k.k c.number_at-other.result c.number_at-other.ensures (sym c.count_of-other_count.ensures ∙ c.if-other_count-one_count.false ∙ c.count_of-one_count.ensures) ∙ c.loop-k.invariant.1,
)

pub returns-clause-value : goal.returns-clause-value
returns-clause-value c = never_differs c.args.table.now c.args.hands.now c.number_at-one.result c.loop-k.k c.number_at-one.ensures (omega (arith, ap length c.senders-senders.ensures.value, c.loop-k-test.false)) c.loop-k.invariant.1

pub returns-clause-even : goal.returns-clause-even
returns-clause-even c = even_of c.args.table.now c.args.hands.now None (returns-clause-value c) c.senders-senders.ensures.valid c.requires.dealt
