use Rattle.std.proofs.Common.{sym, ap, ◌∙◌, subst, arith}
use Rattle.std.specs.List.{AllByRecursion}
use Rattle.bus_dropout.specs.DropOut.{drop_end}
use Rattle.bus_strings.specs.Transmissions.{IsTransmission}
use Rattle.bus_tool.specs.Due.{may_drop}
use Rattle.bus_hands.specs.Holds.{hand_holds}
use Rattle.bus_tool.proofs.DropLemmas.{drop_is_trace, drop_gives}
use Rattle.bus_tool.proofs.dropout.record.Goals as goal

pub overflow_cast-end : goal.overflow_cast-end
overflow_cast-end c = omega (arith, c.drop_end-end.ensures.value, ap (drop_end c.args.table.now) c.deref-2.ensures.value, c.in-Ok.ensures.limit.within)

pub of-requires : goal.of-requires
of-requires c = (drop_is_trace c.args.table.now c.args.hands.items c.drop_end-end.result c.in_ok-holds.holds.items c.in-Ok.list.items
    (c.drop_end-end.ensures.value ∙ ap (drop_end c.args.table.now) c.deref-2.ensures.value)
    c.in-Ok.ensures.limit.within
    c.requires.ready.few
    (c.in_ok-holds.ensures ∙ ap hand_holds c.deref-3.ensures.value)
    c.in-Ok.ensures.run
    (subst (AllByRecursion IsTransmission) c.deref-in-Ok.ensures.value c.look_at.ensures))

pub returns-in-Ok-clause-gives : goal.returns-in-Ok-clause-gives
returns-in-Ok-clause-gives c = drop_gives c.args.table.now c.args.hands.items c.drop_end-end.result c.in_ok-holds.holds.items c.in-Ok.list.items c.of.result
    (sym (ap (may_drop c.args.table.now) c.deref.ensures.value) ∙ sym c.in_ok-may_drop.ensures.value)
    c.in-Ok.ensures.limit.within
    (c.drop_end-end.ensures.value ∙ ap (drop_end c.args.table.now) c.deref-2.ensures.value)
    (c.in_ok-holds.ensures ∙ ap hand_holds c.deref-3.ensures.value)
    c.in-Ok.ensures.run
    c.of.ensures
