use Rattle.std.proofs.Common.{take}
use Rattle.std.specs.List.{flat_map}
use Rattle.bus_outer.specs.Texts.{Adds}
use Rattle.bus_medium.specs.Delays.{cable}
use Rattle.bus_cable.specs.inside.Ranks.{listener_heard}
use Rattle.bus_propagation.specs.Numbered.{numbered}
use Rattle.bus_cable.proofs.heard.put_listeners.Given as goal

abbrev pub invariant-loop-listener : goal.invariant-loop-listener
invariant-loop-listener g l =
    Adds g.K.Sink.held g.K.Sink.faults l.fn.sink l.sink l.fn.text l.text (flat_map (listener_heard (cable (numbered l.places)) l.list) (take l.listener-index l.listeners))
