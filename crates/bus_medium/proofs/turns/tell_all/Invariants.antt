use Rattle.bus_medium.specs.inside.Lazy.{clocks_of}
use Rattle.bus_medium.proofs.LazyLoops.{ToldSoFar}
use Rattle.bus_medium.proofs.turns.tell_all.Given as goal

abbrev pub invariant-loop-k : goal.invariant-loop-k
invariant-loop-k g l = ToldSoFar g.C.Core l.quiet l.now (clocks_of l.ended l.all_timers) l.initial.seats l.seats l.k
