use Rattle.std.proofs.Common.{sym, ap, ◌∙◌, subst}
use Rattle.std.specs.List.{AllByRecursion}
use Rattle.bus_tool.specs.Due.{may_run}
use Rattle.bus_hands.specs.Holds.{hand_holds}
use Rattle.bus_strings.specs.Transmissions.{IsTransmission}
use Rattle.bus_tool.proofs.RunLemmas.{run_is_trace, run_gives}
use Rattle.bus_tool.proofs.run.record.Goals as goal

pub of-requires : goal.of-requires
of-requires c = (run_is_trace c.args.table.now c.args.hands.items c.in-Ok.field-0.end c.in_ok-holds.holds.items c.in-Ok.field-0.list.items
    c.in-Ok.ensures.end
    c.in-Ok.ensures.limit.within
    c.requires.ready.few
    (c.in_ok-holds.ensures ∙ ap hand_holds c.deref-2.ensures.value)
    c.in-Ok.ensures.run
    (subst (AllByRecursion IsTransmission) c.deref-in-Ok.ensures.value c.look_at.ensures))

pub returns-in-Ok-clause-gives : goal.returns-in-Ok-clause-gives
returns-in-Ok-clause-gives c = run_gives c.args.table.now c.args.hands.items c.in-Ok.field-0.end c.in_ok-holds.holds.items c.in-Ok.field-0.list.items c.of.result
    (sym (ap (may_run c.args.table.now) c.deref.ensures.value) ∙ sym c.in_ok-may_run.ensures.value)
    c.in-Ok.ensures.limit.within
    c.in-Ok.ensures.end
    (c.in_ok-holds.ensures ∙ ap hand_holds c.deref-2.ensures.value)
    c.in-Ok.ensures.run
    c.of.ensures
