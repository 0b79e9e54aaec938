use Rattle.bus_medium.proofs.TimersLemmas.{LeastSoFar}
use Rattle.bus_medium.proofs.turns.settled_idle.Given as goal

abbrev pub invariant-loop-timers : goal.invariant-loop-timers
invariant-loop-timers l = LeastSoFar l.least l.all_timers l.timers-index
