use Rattle.std.proofs.Common.{ap, ◌∙◌, subst}
use Rattle.std.specs.List.{AllByRecursion}
use Rattle.bus_strings.specs.Transmissions.{IsTransmission}
use Rattle.bus_hands.specs.Holds.{hand_holds}
use Rattle.bus_tool.proofs.CableLemmas.{on_cable_is_trace}
use Rattle.bus_tool.proofs.on_cable.record.Goals as goal

pub of-requires : goal.of-requires
of-requires c = on_cable_is_trace c.args.table.now c.args.cable.now c.args.hands.items c.args.horizon c.in_ok-holds.holds.items c.in_ok-list.list.items c.requires.horizon c.requires.ready.few
    (c.in_ok-holds.ensures ∙ ap hand_holds c.deref.ensures.value) c.in_ok-list.ensures.lawful
    (subst (AllByRecursion IsTransmission) c.deref-2.ensures.value c.look_at.ensures)
