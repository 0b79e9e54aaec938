use Rattle.std.proofs.Common.{◌≤◌, ◌<◌, ◌-◌, true, false}
use Rattle.bus_reach.specs.Limits.{farthest}
use Rattle.bus_reach.proofs.LimitLemmas.{Stays}
use Rattle.bus_reach.proofs.periodic.sync_bound.Given as goal

-- with what delays it stays in sync, and with what it does not
abbrev pub invariant-loop-lost : goal.invariant-loop-lost
invariant-loop-lost l = record {
  kept : Stays l.table l.k l.kept true;
  lost : Stays l.table l.k l.lost false;
  less : l.kept < l.lost;
  bound : l.lost ≤ farthest l.table;
}

abbrev pub decreases-loop-lost : goal.decreases-loop-lost
decreases-loop-lost l = l.lost - l.kept
