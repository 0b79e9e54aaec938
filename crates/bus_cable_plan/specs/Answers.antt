-- What the planner answers.
use Rattle.std.specs.Prelude.{ℕ, ◌+◌, ◌-◌, Bool, ◌&&◌, ◌||◌, Option, Some, None, not, ◌==◌, nat_le, nat_lt, length, if◌then◌else◌}
use Rattle.bus_table.specs.declared.mode.Mode.{Mode}
use Rattle.bus_table.specs.declared.mode.Mode.TheVariants.{Aperiodic, Periodic}
use Rattle.bus_table.specs.Tables.{Table}
use Rattle.bus_regime.specs.Verdicts.{verdict_of, is_accepted}
use Rattle.bus_plan.specs.declared.planning.PlanAnswer.{PlanAnswer}
use Rattle.bus_plan.specs.declared.planning.PlanAnswer.TheVariants.{Planned as PlannedAlone, Infeasible as InfeasibleAlone}
use Rattle.bus_plan.specs.Answers.{plan_of}
use Rattle.bus_reach.specs.Bearing.{bears, greatest_to}
use Rattle.bus_cable_plan.specs.declared.planning.CablePlan.{CablePlan}
use Rattle.bus_cable_plan.specs.declared.planning.CablePlan.TheVariants.{Planned, Infeasible, Undecided}
use Rattle.bus_cable_plan.specs.Plans.{turns_for, least_in_order, least_interval_for, planned_in_order, planned_by_gap}
use Rattle.bus_cable_plan.specs.Known.{is_known}

-- A sender alone bears every delay, so its plan is the one without delay.
abbrev pub alone : PlanAnswer → CablePlan
alone (PlannedAlone table) = Planned table
alone (InfeasibleAlone least ti) = Infeasible least ti

-- Whether a plan for d fits the interval.
abbrev pub fits : ℕ → Table → Bool
fits d table = nat_le (least_in_order d table) table.ti || nat_le (least_interval_for d table) table.ti

-- The plan for d where one fits: in the turn order of the table where that fits, else in the order of terminal gaps.
abbrev pub fitting : ℕ → Table → Table
fitting d table = if nat_le (least_in_order d table) table.ti then planned_in_order d table else planned_by_gap d table

-- Whether the table as it is given bears d, at the offsets that it has.
abbrev pub bears_as_given : ℕ → Table → Bool
bears_as_given d table = is_accepted (verdict_of table) && bears table d

-- Whether offsets are found that bear d: those of a plan that fits, or those that the table has.
abbrev pub is_found : ℕ → Table → Bool
is_found d table = fits d table || bears_as_given d table

-- The table at the offsets found: the plan where one fits, else the table as it is given.
abbrev pub found : ℕ → Table → Table
found d table = if fits d table then fitting d table else table

-- Where no offsets are found that bear d, it is refuted where the least interval for d is known, and where the turns alone don't fit.
abbrev pub is_refuted : ℕ → Table → Bool
is_refuted d table = is_known d table || nat_lt table.ti (turns_for d table)

-- Below which interval no offsets bear d, as far as that is known.
abbrev pub known_least : ℕ → Table → ℕ
known_least d table = if is_known d table then least_interval_for d table else turns_for d table

-- It isn't known whether some offsets bear d.
abbrev pub undecided : ℕ → Table → CablePlan
undecided d table = Undecided (turns_for d table) table.ti

-- What is said where no offsets are found that bear d.
abbrev pub unfit : ℕ → Table → CablePlan
unfit d table =
    if is_refuted d table then Infeasible (known_least d table) table.ti else undecided d table

-- The plan of a table for d.
abbrev pub plan_for_of : ℕ → Table → CablePlan
plan_for_of d table =
    if length table.senders == 1 then alone (plan_of table)
    else if is_found d table then Planned (found d table)
    else unfit d table

-- The greatest delay for which offsets are found that bear it. None do that is as long as the interval.
abbrev pub best_of : Table → ℕ
best_of table = greatest_to (λ d. is_found d table) (table.ti - 1)

-- The plan of a table for the greatest delay that any offsets bear.
abbrev pub plan_best_of : Table → CablePlan
plan_best_of table =
    if length table.senders == 1 then alone (plan_of table)
    else if not (is_found 0 table) then unfit 0 table
    else if is_refuted (best_of table + 1) table then Planned (found (best_of table) table)
    else undecided (best_of table + 1) table

-- The greatest delay that any offsets of a table of this mode bear, where that is known. There is none of an aperiodic table, nor of a
-- sender alone, which bears every delay, and where no offsets are accepted.
abbrev pub most_borne_in : Mode → Table → Option ℕ
most_borne_in Aperiodic table = None
most_borne_in Periodic table =
    if length table.senders == 1 then None
    else if is_found 0 table && is_refuted (best_of table + 1) table then Some (best_of table)
    else None

-- That of a table.
abbrev pub most_borne_of : Table → Option ℕ
most_borne_of table = most_borne_in table.mode table
