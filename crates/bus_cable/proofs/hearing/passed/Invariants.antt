use Rattle.std.proofs.Common.{ℕ, ◌≤◌, ◌<◌}
use Rattle.bus_medium.specs.Delays.{cable, heard}
use Rattle.bus_cable.specs.inside.Ranks.{rank_in}
use Rattle.bus_propagation.specs.Numbered.{numbered}
use Rattle.bus_cable.proofs.hearing.passed.Given as goal

abbrev pub invariant-loop-at : goal.invariant-loop-at
invariant-loop-at l = (k : ℕ) → l.from ≤ k → k < l.at → rank_in (heard (cable (numbered l.places)) l.number l.list) k < l.bound
