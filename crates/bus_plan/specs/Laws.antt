-- What the planner rests on.
use Rattle.std.specs.Prelude.{◌≡◌, ℕ, ◌<◌, ◌≤◌, ◌↔◌, false, List, length, IsTrue}
use Rattle.std.specs.List.{All}
use Rattle.bus_table.specs.declared.mode.Mode.TheVariants.{Periodic}
use Rattle.bus_table.specs.Tables.{Table}
use Rattle.bus_table.specs.Offsets.{with_offsets}
use Rattle.bus_table.specs.Valid.{is_valid}
use Rattle.bus_regime.specs.Verdicts.{verdict_of, is_accepted}
use Rattle.bus_plan.specs.Plans.{least_interval, planned_table}

-- Where the transmit interval is at least the least interval, the planned table is valid, and accepted.
abbrev pub PlannedIsAccepted : Type 0
PlannedIsAccepted =
    (table : Table) → IsTrue (is_valid table) → table.mode ≡ Periodic → least_interval table ≤ table.ti
    → IsTrue (is_valid (planned_table table)) × IsTrue (is_accepted (verdict_of (planned_table table)))

-- Where it is below, no choice of offsets is accepted, whether they are below the transmit interval or not.
abbrev pub ShortIsRefused : Type 0
ShortIsRefused =
    (table : Table) (offsets : List ℕ) → IsTrue (is_valid table) → table.mode ≡ Periodic → table.ti < least_interval table
    → is_accepted (verdict_of (with_offsets offsets table)) ≡ false

-- These are offsets for each sender, each below the transmit interval, and the table with them is accepted.
pub record AreAccepted (table : Table) (offsets : List ℕ) : Type 0 where
  pub count : length offsets ≡ length table.senders
  pub below : All (λ at. at < table.ti) offsets
  pub accepted : IsTrue (is_accepted (verdict_of (with_offsets offsets table)))

-- Some choice of offsets below the transmit interval is accepted exactly where the transmit interval is at least the least interval.
abbrev pub FeasibleExactly : Type 0
FeasibleExactly =
    (table : Table) → IsTrue (is_valid table) → table.mode ≡ Periodic
    → (least_interval table ≤ table.ti) ↔ ((offsets : List ℕ) × AreAccepted table offsets)

-- A plan doesn't look at the offsets that the table had.
abbrev pub PlansAnew : Type 0
PlansAnew = (table : Table) (offsets : List ℕ) → planned_table (with_offsets offsets table) ≡ planned_table table
