use Rattle.std.proofs.Common.{arith, sym, subst}
use Rattle.std.specs.List.{AllByRecursion}
use Rattle.bus_strings.specs.Transmissions.{IsTransmission}
use Rattle.bus_tool.proofs.ScheduleLemmas.{schedule_is_trace, schedule_gives}
use Rattle.bus_tool.proofs.schedule.record.Goals as goal

pub overflow_cast-end : goal.overflow_cast-end
overflow_cast-end c = omega (arith, c.closed_end-end.ensures.value, c.in-Ok.ensures.limit.within)

pub of-requires : goal.of-requires
of-requires c = (schedule_is_trace c.args.table.now c.args.hands.now c.closed_end-end.result c.in_ok-holds.holds.items c.in-Ok.list.items
    c.closed_end-end.ensures.value
    c.in-Ok.ensures.limit.within
    c.requires.ready.few
    c.in_ok-holds.ensures
    c.in-Ok.ensures.closed
    c.in-Ok.ensures.ordered
    (subst (AllByRecursion IsTransmission) c.deref.ensures.value c.look_at.ensures))

pub returns-in-Ok-clause-gives : goal.returns-in-Ok-clause-gives
returns-in-Ok-clause-gives c = schedule_gives c.args.table.now c.args.hands.now c.closed_end-end.result c.in_ok-holds.holds.items c.in-Ok.list.items c.of.result
    (sym c.in_ok-judge_even.ensures.value)
    c.in-Ok.ensures.limit.within
    c.closed_end-end.ensures.value
    c.in_ok-holds.ensures
    c.in-Ok.ensures.closed
    c.of.ensures
