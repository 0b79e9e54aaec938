use Rattle.std.proofs.Common.{length, ◌≤◌}
use Rattle.bus_medium.specs.Delays.{cable, heard}
use Rattle.bus_cable.specs.inside.Ranks.{rank_in, IsFirstSoFar}
use Rattle.bus_propagation.specs.Numbered.{numbered}
use Rattle.bus_cable.proofs.hearing.first_heard.Given as goal

abbrev pub invariant-loop-at : goal.invariant-loop-at
invariant-loop-at l = record {
  so_far : IsFirstSoFar (rank_in (heard (cable (numbered l.places)) l.number l.list)) l.from l.bound (length l.list) l.at l.best l.least;
  low : l.from ≤ l.at;
}
