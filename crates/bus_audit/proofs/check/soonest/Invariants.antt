use Rattle.bus_audit.proofs.Keeping.{SoonSoFar}
use Rattle.bus_audit.proofs.check.soonest.Given as goal

abbrev pub invariant-loop-lazy : goal.invariant-loop-lazy
invariant-loop-lazy l = SoonSoFar l.first l.timers l.lazy-index
