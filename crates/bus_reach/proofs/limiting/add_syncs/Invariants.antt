use Rattle.std.proofs.Common.{◌≡◌, ◌++◌, [], drop, take}
use Rattle.bus_regime.specs.Gaps.{gaps}
use Rattle.bus_reach.specs.Limits.{sync_limits}
use Rattle.bus_reach.proofs.limiting.add_syncs.Given as goal

-- with those of the senders to come these are all
abbrev pub invariant-loop-k : goal.invariant-loop-k
invariant-loop-k l =
    l.limits.items ++ sync_limits l.table (take l.k (gaps l.table)) (drop l.k (gaps l.table))
    ≡ l.fn.limits.items ++ sync_limits l.table [] (gaps l.table)
