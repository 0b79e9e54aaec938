use Rattle.std.proofs.Common.{◌≤◌, ◌-◌, ◌≡◌, length, Some}
use Rattle.std.specs.Prelude.{slice_get}
use Rattle.bus_medium.specs.declared.timers.Timers.{Timers}
use Rattle.bus_medium.specs.inside.Lazy.{IsSoon}
use Rattle.bus_medium.proofs.TimersLemmas.{ReadySoFar}
use Rattle.bus_medium.proofs.first.first_ready.Given as goal

abbrev pub invariant-loop-place : goal.invariant-loop-place
invariant-loop-place l = record {
  so : ReadySoFar l.most l.ended l.all_timers l.first.ready l.first.place l.first.alone l.place;
  within : l.place ≤ length l.all_timers;
  found : (w : Timers) → slice_get l.all_timers l.place ≡ Some w → IsSoon l.first.ready (l.first.ready - l.ended) w;
}

abbrev pub decreases-loop-place : goal.decreases-loop-place
decreases-loop-place l = length l.all_timers - l.place
