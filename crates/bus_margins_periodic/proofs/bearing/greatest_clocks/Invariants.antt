use Rattle.bus_margins_periodic.proofs.BearLemmas.{IsBelow}
use Rattle.bus_margins_periodic.proofs.bearing.greatest_clocks.Given as goal

-- none greater is kept
abbrev pub invariant-loop-n : goal.invariant-loop-n
invariant-loop-n l = IsBelow l.bounds l.table l.level l.n

abbrev pub decreases-loop-n : goal.decreases-loop-n
decreases-loop-n l = l.n
