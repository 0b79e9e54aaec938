use Rattle.bus_medium.proofs.Stretching.{EachSoFar}
use Rattle.bus_audit.proofs.Keeping.{Put}
use Rattle.bus_audit.proofs.walk.pass_each.Given as goal

abbrev pub invariant-loop-lazy : goal.invariant-loop-lazy
invariant-loop-lazy l = EachSoFar (Put l.heard l.from) l.initial.timers l.timers l.lazy-index
