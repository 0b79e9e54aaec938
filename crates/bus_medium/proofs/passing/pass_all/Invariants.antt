use Rattle.bus_medium.proofs.Stretching.{EachSoFar}
use Rattle.bus_medium.proofs.TimersLemmas.{Passed}
use Rattle.bus_medium.proofs.passing.pass_all.Given as goal

abbrev pub invariant-loop-timers : goal.invariant-loop-timers
invariant-loop-timers l = EachSoFar (Passed l.ended l.from l.to) l.initial.all_timers l.all_timers l.timers-index
