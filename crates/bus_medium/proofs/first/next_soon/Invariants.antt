use Rattle.std.proofs.Common.{◌≤◌, ◌-◌, length}
use Rattle.bus_medium.specs.inside.Lazy.{AreLater}
use Rattle.bus_medium.proofs.first.next_soon.Given as goal

abbrev pub invariant-loop-place : goal.invariant-loop-place
invariant-loop-place l = record {
  low : l.from ≤ l.place;
  high : l.place ≤ length l.all_timers;
  skipped : AreLater l.most l.behind l.all_timers l.from l.place;
}

abbrev pub decreases-loop-place : goal.decreases-loop-place
decreases-loop-place l = length l.all_timers - l.place
