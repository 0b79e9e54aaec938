use Rattle.std.proofs.Common.{◌≡◌, ◌≤◌, ◌<◌, ◌-◌, true, false}
use Rattle.bus_cable_plan.specs.Answers.{is_found}
use Rattle.bus_cable_plan.proofs.planning.best.Given as goal

-- what fits, and what doesn't
abbrev pub invariant-loop-above : goal.invariant-loop-above
invariant-loop-above l = record {
  found_is : is_found l.borne l.table ≡ true;
  above_is : is_found l.above l.table ≡ false;
  less : l.borne < l.above;
  bound : l.above ≤ l.table.ti;
}

abbrev pub decreases-loop-above : goal.decreases-loop-above
decreases-loop-above l = l.above - l.borne
