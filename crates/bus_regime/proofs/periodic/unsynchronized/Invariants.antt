use Rattle.std.proofs.Common.{◌≡◌, drop}
use Rattle.std.specs.List.{find}
use Rattle.bus_regime.specs.Gaps.{gaps}
use Rattle.bus_regime.specs.Verdicts as verdicts
use Rattle.bus_regime.proofs.periodic.unsynchronized.Given as goal

-- none so far lacks sync
abbrev pub invariant-loop-k : goal.invariant-loop-k
invariant-loop-k l =
    find (verdicts.lacks_sync l.table.sg (gaps l.table)) (gaps l.table) ≡ find (verdicts.lacks_sync l.table.sg (gaps l.table)) (drop l.k (gaps l.table))
