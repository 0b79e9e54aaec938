use Rattle.std.proofs.Common.{◌-◌, ◌*◌}
use Rattle.bus_medium.specs.Delays.{cable}
use Rattle.bus_propagation.specs.Numbered.{numbered}
use Rattle.bus_propagation.proofs.RunLemmas.{RunsTo, rank}
use Rattle.bus_propagation.proofs.observing.observe_delayed.Given as goal

abbrev pub invariant-loop-turn : goal.invariant-loop-turn
invariant-loop-turn l = RunsTo l.table l.fn.hands.items (cable (numbered l.places)) (numbered l.wakes) l.horizon l.list.items l.seats.items l.moment

abbrev pub decreases-loop-turn : goal.decreases-loop-turn
decreases-loop-turn l = 129 * l.horizon - rank l.list.items
