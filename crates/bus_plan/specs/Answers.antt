-- What the planner answers, and what it means.
use Rattle.std.specs.Prelude.{◌≡◌, ℕ, ◌<◌, ◌≤◌, false, nat_lt, List, IsTrue, if◌then◌else◌}
use Rattle.bus_table.specs.Tables.{Table}
use Rattle.bus_table.specs.Offsets.{with_offsets}
use Rattle.bus_table.specs.Valid.{is_valid}
use Rattle.bus_regime.specs.Verdicts.{verdict_of, is_accepted}
use Rattle.bus_plan.specs.declared.planning.PlanAnswer.{PlanAnswer}
use Rattle.bus_plan.specs.declared.planning.PlanAnswer.TheVariants.{Planned, Infeasible}
use Rattle.bus_plan.specs.Plans.{least_interval, planned_table}

-- The answer: infeasible exactly where the transmit interval is below the least interval, with both numbers.
abbrev pub plan_of : Table → PlanAnswer
plan_of table =
    if nat_lt table.ti (least_interval table) then Infeasible (least_interval table) table.ti else Planned (planned_table table)

-- The transmit interval is enough, and the planned table is valid and accepted.
pub record IsFeasible (table made : Table) : Type 0 where
  pub enough : least_interval table ≤ table.ti
  pub valid : IsTrue (is_valid made)
  pub accepted : IsTrue (is_accepted (verdict_of made))

-- The transmit interval is too short, and no choice of offsets is accepted, whether they are below it or not.
pub record IsInfeasible (table : Table) : Type 0 where
  pub short : table.ti < least_interval table
  pub refused : (offsets : List ℕ) → is_accepted (verdict_of (with_offsets offsets table)) ≡ false

-- What an answer means.
abbrev pub Means : Table → PlanAnswer → Type 0
Means table (Planned made) = IsFeasible table made
Means table (Infeasible least ti) = IsInfeasible table
