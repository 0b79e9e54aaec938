use Rattle.bus_medium.proofs.Stretching.{EachSoFar}
use Rattle.bus_audit.proofs.Keeping.{Told, SoonSoFar}
use Rattle.bus_audit.proofs.check.find_all.Given as goal

abbrev pub invariant-loop-lazy : goal.invariant-loop-lazy
invariant-loop-lazy l = record {
  told : EachSoFar (Told l.heard) l.initial.timers l.timers l.lazy-index;
  soon : SoonSoFar l.first l.timers l.lazy-index;
}
