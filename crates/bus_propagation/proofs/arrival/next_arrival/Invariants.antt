use Rattle.bus_medium.specs.Delays.{cable}
use Rattle.bus_propagation.specs.Numbered.{numbered}
use Rattle.bus_propagation.proofs.ArrivalLemmas.{FirstSoFar}
use Rattle.bus_propagation.proofs.arrival.next_arrival.Given as goal

abbrev pub invariant-loop-place : goal.invariant-loop-place
invariant-loop-place l = FirstSoFar (cable (numbered l.places)) l.terminal l.list l.moment l.first l.place
