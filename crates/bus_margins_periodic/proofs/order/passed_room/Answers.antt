use Rattle.std.proofs.Common.{◌*◌, ◌<◌, arith, sym, ◌∙◌, subst, refl}
use Rattle.bus_margins.specs.Buses.{bus_of}
use Rattle.bus_margins_periodic.proofs.AheadLemmas.{IsFirst, first_is, passed_first, passed_none, sooner}
use Rattle.bus_margins_periodic.proofs.order.passed_room.Goals as goal

pub returns-then-last-due : goal.returns-then-last-due
returns-then-last-due c =
    let first : IsFirst (bus_of c.args.bounds c.args.table.now) c.args.case.late c.args.case.held c.first_due-due.result =
    subst (IsFirst (bus_of c.args.bounds c.args.table.now) c.args.case.late c.args.case.held) (sym c.first_due-due.ensures)
    (first_is (bus_of c.args.bounds c.args.table.now) c.args.ahead.now c.args.case.late c.args.case.held c.requires.ahead
    (omega (arith, c.requires.held, c.requires.few, c.requires.first, c.count-few.ensures.value, c.count-few.ensures.senders))) in
    sym (passed_none (bus_of c.args.bounds c.args.table.now) (λ k. refl) c.args.last c.args.case.late c.args.case.held c.requires.case.order c.first_due-due.result
    (omega (arith, c.if-last-due.true)) first.before)

pub overflow_sub-fast : goal.overflow_sub-fast
overflow_sub-fast c =
    let first : IsFirst (bus_of c.args.bounds c.args.table.now) c.args.case.late c.args.case.held c.first_due-due.result =
    subst (IsFirst (bus_of c.args.bounds c.args.table.now) c.args.case.late c.args.case.held) (sym c.first_due-due.ensures)
    (first_is (bus_of c.args.bounds c.args.table.now) c.args.ahead.now c.args.case.late c.args.case.held c.requires.ahead
    (omega (arith, c.requires.held, c.requires.few, c.requires.first, c.count-few.ensures.value, c.count-few.ensures.senders))) in
    let behind = first.behind in
    let is = sooner (bus_of c.args.bounds c.args.table.now) c.args.ahead.now c.args.case.late c.first_due-due.result c.requires.ahead
    (omega (arith, c.requires.case.order, behind))
    (omega (arith, c.if-last-due.false, c.requires.few, c.requires.first, c.count-few.ensures.value, c.count-few.ensures.senders)) in
    omega (arith, is)

pub order_among-requires-clause-case : goal.order_among-requires-clause-case
order_among-requires-clause-case c =
    let first : IsFirst (bus_of c.args.bounds c.args.table.now) c.args.case.late c.args.case.held c.first_due-due.result =
    subst (IsFirst (bus_of c.args.bounds c.args.table.now) c.args.case.late c.args.case.held) (sym c.first_due-due.ensures)
    (first_is (bus_of c.args.bounds c.args.table.now) c.args.ahead.now c.args.case.late c.args.case.held c.requires.ahead
    (omega (arith, c.requires.held, c.requires.few, c.requires.first, c.count-few.ensures.value, c.count-few.ensures.senders))) in
    let behind = first.behind in
    let low : c.first_due-due.result < 2 * (bus_of c.args.bounds c.args.table.now).senders =
    omega (arith, c.if-last-due.false, c.requires.few, c.requires.first, c.count-few.ensures.value, c.count-few.ensures.senders) in
    let is = sooner (bus_of c.args.bounds c.args.table.now) c.args.ahead.now c.args.case.late c.first_due-due.result c.requires.ahead
    (omega (arith, c.requires.case.order, behind)) low in
    let bound = c.requires.ahead.bound c.first_due-due.result low in
    record {
      slow = c.requires.case.slow;
      fast = omega (arith, is);
      slow_bound = c.requires.case.slow_bound;
      fast_bound = omega (arith, bound);
      order = c.requires.case.order;
      early = c.requires.case.early;
      held_early = c.requires.case.held_early;
      due_early = omega (arith, low, c.count-few.ensures.value, c.count-few.ensures.few);
    }

pub returns : goal.returns
returns c =
    let first : IsFirst (bus_of c.args.bounds c.args.table.now) c.args.case.late c.args.case.held c.first_due-due.result =
    subst (IsFirst (bus_of c.args.bounds c.args.table.now) c.args.case.late c.args.case.held) (sym c.first_due-due.ensures)
    (first_is (bus_of c.args.bounds c.args.table.now) c.args.ahead.now c.args.case.late c.args.case.held c.requires.ahead
    (omega (arith, c.requires.held, c.requires.few, c.requires.first, c.count-few.ensures.value, c.count-few.ensures.senders))) in
    c.order_among.ensures
    ∙ sym (passed_first (bus_of c.args.bounds c.args.table.now) (λ k. refl) c.args.last c.args.case.late c.args.case.held c.requires.case.order
    c.first_due-due.result first.behind (omega (arith, c.if-last-due.false)) first.before
    (first.ruled (omega (arith, c.if-last-due.false, c.requires.few, c.requires.case.order, c.count-few.ensures.value, c.count-few.ensures.senders))))
