-- What the answers of the planner mean.
use Rattle.std.specs.Prelude.{ℕ, ◌+◌, ◌≡◌, ◌≢◌, ◌<◌, ◌≤◌, false, IsTrue, List, Some, length, map}
use Rattle.bus_table.specs.declared.mode.Mode.TheVariants.{Periodic}
use Rattle.bus_table.specs.Tables.{Sender, Table}
use Rattle.bus_table.specs.Offsets.{with_offsets}
use Rattle.bus_table.specs.Turns.{turn_order}
use Rattle.bus_table.specs.Valid.{is_valid}
use Rattle.bus_cable_plan.specs.declared.planning.CablePlan.{CablePlan}
use Rattle.bus_cable_plan.specs.declared.planning.CablePlan.TheVariants.{Planned, Infeasible, Undecided}
use Rattle.bus_cable_plan.specs.Plans.{turns_for, least_in_order, given_offsets, with_interval}
use Rattle.bus_cable_plan.specs.Known.{is_known}
use Rattle.bus_cable_plan.specs.Answers.{fits, plan_for_of, plan_best_of, most_borne_of}
use Rattle.bus_cable_plan.specs.Laws.{AreBorne}

-- The table made is the given one at offsets, other ones or its own, which are accepted and bear d. Where a plan for d in the turn order of
-- the table fits, the order is kept.
pub record IsPlanOf (d : ℕ) (table made : Table) : Type 0 where
  pub offsets : List ℕ
  pub borne : AreBorne d table offsets
  pub made_is : made ≡ with_offsets offsets table
  pub kept : least_in_order d table ≤ table.ti
      → map (λ (s : Sender). s.number) (turn_order made) ≡ map (λ (s : Sender). s.number) (turn_order table)

-- No offsets are accepted that bear d or more.
abbrev pub NoneBear : ℕ → Table → Type 0
NoneBear d table = (e : ℕ) → d ≤ e → (offsets : List ℕ) → AreBorne e table offsets → ⊥

-- No offsets bear d in the table's transmit interval `ti`, nor in any other that is below `least`, as `ti` is.
pub record IsInfeasible (d : ℕ) (table : Table) (least ti : ℕ) : Type 0 where
  pub none : NoneBear d table
  pub interval : ti ≡ table.ti
  pub short : ti < least
  pub below : (other : ℕ) → other < least → NoneBear d (with_interval other table)

-- It isn't known whether some offsets bear d: the turns, which take `least`, fit the table's interval `ti`, no plan for d does, the least
-- interval for d isn't known, and the offsets that the table has don't bear d.
pub record IsOpen (d : ℕ) (table : Table) (least ti : ℕ) : Type 0 where
  pub least_is : least ≡ turns_for d table
  pub interval : ti ≡ table.ti
  pub turns : turns_for d table ≤ table.ti
  pub unfit : fits d table ≡ false
  pub unknown : is_known d table ≡ false
  pub given : AreBorne d table (given_offsets table) → ⊥

-- What the answer for d means.
abbrev pub Means : ℕ → Table → CablePlan → Type 0
Means d table (Planned made) = IsPlanOf d table made
Means d table (Infeasible least ti) = IsInfeasible d table least ti
Means d table (Undecided least ti) = IsOpen d table least ti

-- The table made bears the greatest delay that any offsets bear; of a sender alone it bears every delay.
pub record IsBest (table made : Table) : Type 0 where
  pub alone : length table.senders ≡ 1 → (d : ℕ) → IsPlanOf d table made
  pub several : length table.senders ≢ 1 → (d : ℕ) × IsPlanOf d table made × NoneBear (d + 1) table

-- What the answer for the greatest delay means.
abbrev pub MeansBest : Table → CablePlan → Type 0
MeansBest table (Planned made) = IsBest table made
MeansBest table (Infeasible least ti) = IsInfeasible 0 table least ti
MeansBest table (Undecided least ti) = (d : ℕ) × ((made : Table) × IsPlanOf d table made) × IsOpen (d + 1) table least ti

-- Each answer means what it is to mean.
abbrev pub PlansAreRight : Type 0
PlansAreRight = (d : ℕ) (table : Table) → IsTrue (is_valid table) → table.mode ≡ Periodic → Means d table (plan_for_of d table)

abbrev pub BestIsRight : Type 0
BestIsRight = (table : Table) → IsTrue (is_valid table) → table.mode ≡ Periodic → MeansBest table (plan_best_of table)

-- What is told of the greatest delay is so: some offsets bear it, and none bear more.
abbrev pub MostBorneIsRight : Type 0
MostBorneIsRight =
    (d : ℕ) (table : Table) → IsTrue (is_valid table) → table.mode ≡ Periodic → most_borne_of table ≡ Some d
    → ((made : Table) × IsPlanOf d table made) × NoneBear (d + 1) table
