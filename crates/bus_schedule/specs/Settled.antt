-- When a table is settled: whatever even hands its senders have, the bus does what the closed schedule says, and no two messages overlap.
-- No limit on the closed end is meant here.
--   witness   two filling messages of each sender, by which a refused table fails
use Rattle.std.specs.Prelude.{◌≡◌, ℕ, ◌<◌, ◌⊎◌, true, IsTrue, List, slice_get, Some}
use Rattle.bus_strings.specs.Messages.{Entry}
use Rattle.bus_strings.specs.Transmissions.{overlaps}
use Rattle.bus_table.specs.Hands.{hands_of}
use Rattle.bus_table.specs.Tables.{Table, Hand}
use Rattle.bus_medium.specs.Lawful.{IsLawful}
use Rattle.bus_medium.specs.Timings.{quiet_of, stations_of}
use Rattle.bus_regime.specs.Witness.{witness_of}
use Rattle.bus_schedule.specs.Even.{are_even}
use Rattle.bus_schedule.specs.Closed.{closed, closed_end}
use Rattle.bus_schedule.specs.Runs.{IsClear}

-- Up to the closed end of these hands the list is what happens on the bus.
abbrev pub Happens : Table → List Hand → List Entry → Type 0
Happens table hands list = IsLawful (quiet_of table) (stations_of table hands) (closed_end table hands) list

-- With these hands the closed schedule is kept: it is what happens, and no two of its transmissions overlap.
pub record IsKept (table : Table) (hands : List Hand) : Type 0 where
  pub lawful : Happens table hands (closed table hands)
  pub clear : IsClear (closed table hands)

-- A table is settled where that is so with all even hands, of any length.
abbrev pub IsSettled : Table → Type 0
IsSettled table = (hands : List Hand) → IsTrue (are_even table hands) → IsKept table hands

-- One transmission of the list overlaps one behind it.
pub record HasOverlap (list : List Entry) : Type 0 where
  pub first : ℕ
  pub second : ℕ
  pub behind : first < second
  pub one : Entry
  pub other : Entry
  pub one_at : slice_get list first ≡ Some one
  pub other_at : slice_get list second ≡ Some other
  pub overlap : overlaps one other ≡ true

-- With these hands the list isn't what happens, or two of its transmissions overlap.
abbrev pub Fails : Table → List Hand → List Entry → Type 0
Fails table hands list = (Happens table hands list → ⊥) ⊎ HasOverlap list

-- The hands of the witness.
abbrev pub witness_hands : Table → List Hand
witness_hands table = hands_of table (witness_of table)
