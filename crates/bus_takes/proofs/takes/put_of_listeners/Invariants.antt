use Rattle.std.proofs.Common.{take}
use Rattle.std.specs.List.{flat_map}
use Rattle.bus_outer.specs.Texts.{Adds}
use Rattle.bus_takes.specs.Takes.{of_listener}
use Rattle.bus_takes.proofs.takes.put_of_listeners.Given as goal

abbrev pub invariant-loop-listener : goal.invariant-loop-listener
invariant-loop-listener g l =
    Adds g.K.Sink.held g.K.Sink.faults l.fn.sink l.sink l.fn.text l.text (flat_map (of_listener l.table) (take l.listener-index l.listeners))
