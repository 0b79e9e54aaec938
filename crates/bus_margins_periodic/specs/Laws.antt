-- What the level of a periodic table says of its bus.
use Rattle.std.specs.Prelude.{◌≡◌, ℕ, ◌+◌, ◌-◌, ◌<◌, ◌≤◌, ◌↔◌, IsTrue, length}
use Rattle.bus_table.specs.declared.mode.Mode.TheVariants.{Periodic}
use Rattle.bus_table.specs.Tables.{Table}
use Rattle.bus_table.specs.Valid.{is_valid}
use Rattle.bus_clocks.specs.Buses.{Bus}
use Rattle.bus_clocks.specs.Courses.{Course, IsCourse}
use Rattle.bus_clocks.specs.Order.{AreEven}
use Rattle.bus_drift.specs.Beginning.{Begins}
use Rattle.bus_drift.specs.InTurn.{TakeTurns}
use Rattle.bus_drift.specs.Leading.{LeavesLead, FollowOne, least_offset}
use Rattle.bus_drift.specs.Pace.{KeepPace}
use Rattle.bus_drift.specs.Room.{LeavesTurns}
use Rattle.bus_drift.specs.Turns.{turn}
use Rattle.bus_bounds.specs.Bounds.{Bounds, AreBounds}
use Rattle.bus_margins_periodic.specs.declared.level.Level.TheVariants.{Turns, Leads}
use Rattle.bus_margins.specs.Buses.{bus_of}
use Rattle.bus_margins_periodic.specs.Buses.{soon_of, late_of}
use Rattle.bus_margins_periodic.specs.Margins.{level_of, margins_of}

-- Bounds within their limits, and a valid periodic table.
pub record IsAsked (bounds : Bounds) (table : Table) : Type 0 where
  pub range : AreBounds bounds
  pub valid : IsTrue (is_valid table)
  pub mode : table.mode ≡ Periodic

-- The bus of the table leaves room for turns, whoever is the slowest.
abbrev pub HasTurns : Bounds → Table → Type 0
HasTurns bounds table = LeavesTurns (bus_of bounds table) (soon_of bounds table) (late_of bounds table)

-- It leaves room for its first sender to lead.
abbrev pub HasLead : Bounds → Table → Type 0
HasLead bounds table =
    LeavesLead (bus_of bounds table) (soon_of bounds table) (late_of bounds table)
    (least_offset (bus_of bounds table) (soon_of bounds table) (late_of bounds table))

-- Each level is exactly its room.
abbrev pub TurnsIsRoom : Type 0
TurnsIsRoom = (bounds : Bounds) (table : Table) → IsAsked bounds table → (level_of bounds table ≡ Turns) ↔ HasTurns bounds table

abbrev pub LeadsIsRoom : Type 0
LeadsIsRoom =
    (bounds : Bounds) (table : Table) → IsAsked bounds table
    → (level_of bounds table ≡ Leads) ↔ (HasLead bounds table × (HasTurns bounds table → ⊥))

-- What happens on the bus of a periodic table: a course whose senders have as many messages, which begins at a moment.
pub record IsRun (bounds : Bounds) (table : Table) (c : Course) (start : ℕ) : Type 0 where
  pub asked : IsAsked bounds table
  pub course : IsCourse (bus_of bounds table) c
  pub even : AreEven (bus_of bounds table) c
  pub begins : Begins (bus_of bounds table) c start (soon_of bounds table) (late_of bounds table)

-- From start to start of a sender pass at least and at most so many nanoseconds.
abbrev pub AreApart : Bus → Course → ℕ → ℕ → Type 0
AreApart bus c least most =
    (n : ℕ) → n < length c.list → bus.senders ≤ n
    → ((turn c (n - bus.senders)).moment + least ≤ (turn c n).moment) × ((turn c n).moment ≤ (turn c (n - bus.senders)).moment + most)

-- With level `Turns`, whoever is the slowest:
--   turns   all take turns for ever
--   pace    and keep pace
--   apart   and the times from start to start are those that are told.
pub record KeepTurns (bounds : Bounds) (table : Table) (c : Course) (start : ℕ) : Type 0 where
  pub turns : TakeTurns (bus_of bounds table) c (λ k. start + soon_of bounds table k) (λ k. start + late_of bounds table k)
  pub pace : KeepPace (bus_of bounds table) c
  pub apart : AreApart (bus_of bounds table) c (margins_of bounds table).least (margins_of bounds table).most

abbrev pub TurnsKeepTurns : Type 0
TurnsKeepTurns =
    (bounds : Bounds) (table : Table) (c : Course) (start : ℕ) → level_of bounds table ≡ Turns → IsRun bounds table c start
    → KeepTurns bounds table c start

-- With level `Leads`:
--   follow  all take turns for ever and follow the first sender
--   apart   and the times from start to start are those that are told.
pub record FollowFirst (bounds : Bounds) (table : Table) (c : Course) (start : ℕ) : Type 0 where
  pub follow : FollowOne (bus_of bounds table) c (λ k. start + soon_of bounds table k) (λ k. start + late_of bounds table k)
      (least_offset (bus_of bounds table) (soon_of bounds table) (late_of bounds table))
  pub apart : AreApart (bus_of bounds table) c (margins_of bounds table).least (margins_of bounds table).most

abbrev pub LeadsFollowOne : Type 0
LeadsFollowOne =
    (bounds : Bounds) (table : Table) (c : Course) (start : ℕ) → level_of bounds table ≡ Leads → IsRun bounds table c start
    → FollowFirst bounds table c start
