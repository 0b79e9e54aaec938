use Rattle.std.proofs.Common.{◌≡◌, ◌≤◌, drop, take}
use Rattle.std.specs.List.{count_by, find}
use Rattle.bus_regime.specs.Gaps.{gaps, has_width}
use Rattle.bus_regime.specs.Verdicts as verdicts
use Rattle.bus_regime.proofs.periodic.wide_gaps.Given as goal

-- none so far is small, and those that are wide are counted
abbrev pub invariant-loop-k : goal.invariant-loop-k
invariant-loop-k l = record {
  none : find verdicts.is_small (gaps l.table) ≡ find verdicts.is_small (drop l.k (gaps l.table));
  wide : l.wide ≡ count_by (has_width l.table.sg) (take l.k (gaps l.table));
  few : l.wide ≤ l.k;
}
