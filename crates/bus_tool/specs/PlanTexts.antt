-- What `plan` writes, of a table alone and with a delay.
use Rattle.std.specs.Prelude.{ℕ, List, [], ◌∷◌, ◌++◌, codes, decimal}
use Rattle.bus_table.specs.Canonical.{table_text}
use Rattle.bus_plan.specs.declared.planning.PlanAnswer.{PlanAnswer}
use Rattle.bus_plan.specs.declared.planning.PlanAnswer.TheVariants.{Planned, Infeasible}
use Rattle.bus_cable_plan.specs.declared.planning.CablePlan.{CablePlan}
use Rattle.bus_cable_plan.specs.declared.planning.CablePlan.TheVariants.{Planned as CablePlanned, Infeasible as NoneBears, Undecided}

-- That no offsets are accepted: the least interval, and the table's transmit interval.
abbrev pub infeasible_line : ℕ → ℕ → List ℕ
infeasible_line least ti = codes "INFEASIBLE " ++ decimal least ++ 32 ∷ [] ++ decimal ti ++ 10 ∷ []

-- The canonical text of the planned table, or that there is none.
abbrev pub plan_text : PlanAnswer → List ℕ
plan_text (Planned table) = table_text table
plan_text (Infeasible least ti) = infeasible_line least ti

-- That it isn't known whether some offsets bear the delay: what the turns take, and the table's transmit interval.
abbrev pub undecided_line : ℕ → ℕ → List ℕ
undecided_line least ti = codes "UNDECIDED " ++ decimal least ++ 32 ∷ [] ++ decimal ti ++ 10 ∷ []

-- The canonical text of the table that is planned for a delay, or that there is none, or that neither is known.
abbrev pub cable_plan_text : CablePlan → List ℕ
cable_plan_text (CablePlanned table) = table_text table
cable_plan_text (NoneBears least ti) = infeasible_line least ti
cable_plan_text (Undecided least ti) = undecided_line least ti
