use Rattle.bus_medium.specs.Delays.{cable}
use Rattle.bus_propagation.specs.Numbered.{numbered}
use Rattle.bus_propagation.proofs.NextLemmas.{FoundSoFar}
use Rattle.bus_propagation.proofs.turns.next_turn.Given as goal

abbrev pub invariant-loop-place : goal.invariant-loop-place
invariant-loop-place l = FoundSoFar (cable (numbered l.places)) l.list l.moment l.horizon l.initial.seats l.seats l.turn l.place
