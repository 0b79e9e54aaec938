-- What is claimed of `plan` with a delay: `Means` and `MeansBest` say what its answer means.
use Rattle.std.specs.Prelude.{Bool, true, false}
use Rattle.bus_table.specs.Canonical.{table_text}
use Rattle.bus_table.specs.Text.{IsTableText}
use Rattle.bus_cable_plan.specs.declared.planning.CablePlan.{CablePlan}
use Rattle.bus_cable_plan.specs.declared.planning.CablePlan.TheVariants.{Planned, Infeasible, Undecided}
use Rattle.bus_tool.specs.Replies.{Reply, TheTable, NoOffsets, Unknown}

-- Whether there is a plan.
abbrev pub is_planned : CablePlan → Bool
is_planned (Planned table) = true
is_planned (Infeasible least ti) = false
is_planned (Undecided least ti) = false

-- What is answered of a plan: the table, or that no offsets bear the delay in the table's interval, the second number, nor in any below the
-- first; or that it isn't known whether some do, with what the turns take and the interval.
abbrev pub plan_reply : CablePlan → Reply
plan_reply (Planned table) = TheTable table
plan_reply (Infeasible least ti) = NoOffsets least ti
plan_reply (Undecided least ti) = Unknown least ti

-- The text that is written of a planned table stands for it.
abbrev pub StandsWherePlanned : CablePlan → Type 0
StandsWherePlanned (Planned table) = IsTableText table (table_text table)
StandsWherePlanned (Infeasible least ti) = Unit {0}
StandsWherePlanned (Undecided least ti) = Unit {0}
