use Rattle.std.proofs.Common.{◌≡◌, ◌≤◌, ◌<◌, ◌-◌, ◌^◌, true, false}
use Rattle.bus_schedule.specs.Slack.{gaps_bear}
use Rattle.bus_reach.proofs.periodic.tolerance.Given as goal

-- what is borne, and what is not
abbrev pub invariant-loop-above : goal.invariant-loop-above
invariant-loop-above l = record {
  borne : gaps_bear l.table l.borne ≡ true;
  above : gaps_bear l.table l.above ≡ false;
  less : l.borne < l.above;
  bound : l.above ≤ 2 ^ 41;
}

abbrev pub decreases-loop-above : goal.decreases-loop-above
decreases-loop-above l = l.above - l.borne
