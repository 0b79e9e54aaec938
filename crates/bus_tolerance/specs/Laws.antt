-- The tolerance of a table in bit times, and its level.
use Rattle.std.specs.Prelude.{◌≡◌, ◌≢◌, ℕ, ◌*◌, ◌<◌, ◌↔◌, IsTrue, length}
use Rattle.bus_table.specs.declared.mode.Mode.TheVariants.{Aperiodic}
use Rattle.bus_table.specs.Tables.{Table}
use Rattle.bus_table.specs.Valid.{is_valid}
use Rattle.bus_regime.specs.Verdicts.{verdict_of, is_accepted}
use Rattle.bus_regime.specs.Starting.{starts_itself}
use Rattle.bus_reach.specs.Bearing.{bears}
use Rattle.bus_bounds.specs.Bounds.{Bounds}
use Rattle.bus_margins.specs.declared.level.Level.TheVariants.{Any, Neither}
use Rattle.bus_margins.specs.Rooms.{level_of}

-- Exact clocks, and delays up to so many bit times.
abbrev pub exact : ℕ → Bounds
exact d = record { delay = 500 * d; jitter = 0; clocks = 0 }

-- An accepted aperiodic table of several senders.
pub record IsAccepted (table : Table) : Type 0 where
  pub valid : IsTrue (is_valid table)
  pub mode : table.mode ≡ Aperiodic
  pub accepted : IsTrue (is_accepted (verdict_of table))
  pub several : 1 < length table.senders

-- It has a level exactly for the delays that it bears.
abbrev pub ToleranceTellsLevel : Type 0
ToleranceTellsLevel = (table : Table) (d : ℕ) → IsAccepted table → IsTrue (bears table d) ↔ (level_of (exact d) table ≢ Neither)

-- And level `Any` exactly where it also starts itself.
abbrev pub ToleranceTellsAny : Type 0
ToleranceTellsAny =
    (table : Table) (d : ℕ) → IsAccepted table → (IsTrue (bears table d) × IsTrue (starts_itself table)) ↔ (level_of (exact d) table ≡ Any)
