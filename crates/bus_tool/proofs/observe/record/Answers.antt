use Rattle.std.proofs.Common.{ap, ◌∙◌, subst}
use Rattle.std.specs.List.{AllByRecursion}
use Rattle.bus_strings.specs.Transmissions.{IsTransmission}
use Rattle.bus_hands.specs.Holds.{hand_holds}
use Rattle.bus_tool.proofs.TraceLemmas.{lawful_of, observed_is_trace}
use Rattle.bus_tool.proofs.observe.record.Goals as goal

pub of-requires : goal.of-requires
of-requires c = observed_is_trace c.args.table.now c.args.hands.items c.args.horizon c.in_ok-holds.holds.items c.in_ok-list.list.items c.requires.horizon c.requires.ready.few
    (c.in_ok-holds.ensures ∙ ap hand_holds c.deref.ensures.value)
    (lawful_of c.args.table.now c.args.hands.items c.in_ok-bus.bus.quiet _ c.args.horizon c.in_ok-list.list.items c.in_ok-bus.ensures.quiet c.in_ok-bus.ensures.stations c.in_ok-list.ensures.lawful)
    (subst (AllByRecursion IsTransmission) c.deref-2.ensures.value c.look_at.ensures)
