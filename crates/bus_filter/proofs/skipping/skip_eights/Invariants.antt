use Rattle.std.proofs.Common.{◌≤◌, ◌-◌, length}
use Rattle.bus_filter.specs.inside.Keys.{NoneTaken}
use Rattle.bus_filter.proofs.skipping.skip_eights.Given as goal

abbrev pub invariant-loop-at : goal.invariant-loop-at
invariant-loop-at l = record {
  low : l.from ≤ l.at;
  high : l.at ≤ length l.keys;
  skipped : NoneTaken l.spans.behind l.keys l.from l.at;
}

abbrev pub decreases-loop-at : goal.decreases-loop-at
decreases-loop-at l = length l.keys - l.at
