use Rattle.std.proofs.Common.{◌≡◌, ◌++◌, drop, map}
use Rattle.bus_regime.specs.Gaps.{gaps}
use Rattle.bus_reach.specs.Limits.{gap_limit}
use Rattle.bus_reach.proofs.limiting.add_gaps.Given as goal

-- with those of the gaps to come these are all
abbrev pub invariant-loop-k : goal.invariant-loop-k
invariant-loop-k l =
    l.limits.items ++ map (gap_limit l.table) (drop l.k (gaps l.table)) ≡ l.fn.limits.items ++ map (gap_limit l.table) (gaps l.table)
