-- What a design means for tables.
use Rattle.std.specs.Prelude.{◌≡◌, ℕ, ◌≤◌, List, IsTrue}
use Rattle.bus_bounds.specs.Bounds.{Bounds, most_clocks}
use Rattle.bus_table.specs.Ranges.{least_ti}
use Rattle.bus_table.specs.Tables.{Table}
use Rattle.bus_margins.specs.declared.level.Level.TheVariants.{Any}
use Rattle.bus_margins.specs.Rooms.{lasts, level_of, most_apart}
use Rattle.bus_gaps.specs.declared.design.Design.{Design}
use Rattle.bus_gaps.specs.Designs.{AreRoomy, AreAtMost, cycle_of}
use Rattle.bus_table.specs.declared.mode.Mode.TheVariants.{Aperiodic}
use Rattle.bus_table.specs.Valid.{is_valid}
use Rattle.bus_design.specs.Others.{IsAnother, gaps_of, made_table, speakers_of}

-- A table of these senders has level `Any` only with roomy gaps,
abbrev pub AnyIsRoomy : Type 0
AnyIsRoomy =
    (bounds : Bounds) (table other : Table) (gaps : List ℕ) → bounds.clocks ≤ most_clocks → IsAnother table other gaps
    → level_of bounds other ≡ Any → AreRoomy bounds (speakers_of table) other.sg gaps

-- and with roomy gaps, the least transmit interval and messages that last it has it.
abbrev pub RoomyIsAny : Type 0
RoomyIsAny =
    (bounds : Bounds) (table other : Table) (gaps : List ℕ) → IsAnother table other gaps → other.ti ≡ least_ti
    → IsTrue (lasts bounds other) → AreRoomy bounds (speakers_of table) other.sg gaps → level_of bounds other ≡ Any

-- A table that is made with roomy gaps is valid.
abbrev pub MadeIsValid : Type 0
MadeIsValid =
    (bounds : Bounds) (table : Table) (sg : ℕ) (gaps : List ℕ) → bounds.clocks ≤ most_clocks → IsTrue (is_valid table)
    → table.mode ≡ Aperiodic → AreRoomy bounds (speakers_of table) sg gaps → IsTrue (is_valid (made_table table sg gaps))

-- Its longest cycle is that of its gaps.
abbrev pub CycleIsMost : Type 0
CycleIsMost =
    (bounds : Bounds) (table other : Table) (gaps : List ℕ) → IsAnother table other gaps
    → most_apart bounds other ≡ cycle_of bounds (speakers_of table) other.sg gaps

-- The best design for a table:
--   roomy  its gaps are roomy:
--   any    with its gaps and the least transmit interval a table of the same senders in the same order has level `Any`,
--   cycle  and its longest cycle is told;
--   best   no table of theirs that has this level has a lesser longest cycle,
--   last   nor, with the same longest cycle, a greater synchronization gap,
--   least  nor, with the same synchronization gap, a lesser terminal gap.
pub record IsBestFor (bounds : Bounds) (table : Table) (design : Design) : Type 0 where
  pub roomy : AreRoomy bounds (speakers_of table) design.sg design.gaps.items
  pub any : (made : Table) → IsAnother table made design.gaps.items → made.sg ≡ design.sg → made.ti ≡ least_ti
      → level_of bounds made ≡ Any
  pub cycle : (made : Table) → IsAnother table made design.gaps.items → made.sg ≡ design.sg → most_apart bounds made ≡ design.cycle
  pub best : (other : Table) (gaps : List ℕ) → IsAnother table other gaps → level_of bounds other ≡ Any
      → design.cycle ≤ most_apart bounds other
  pub last : (other : Table) (gaps : List ℕ) → IsAnother table other gaps → level_of bounds other ≡ Any
      → most_apart bounds other ≡ design.cycle → other.sg ≤ design.sg
  pub least : (other : Table) (gaps : List ℕ) → IsAnother table other gaps → level_of bounds other ≡ Any → other.sg ≡ design.sg
      → AreAtMost design.gaps.items gaps

-- No table of the same senders in the same order has this level.
abbrev pub AreNoneFor : Bounds → Table → Type 0
AreNoneFor bounds table = (other : Table) (gaps : List ℕ) → IsAnother table other gaps → level_of bounds other ≡ Any → ⊥

-- The made table:
--   parts    its senders are the given ones in turn order with other terminal gaps, its listeners the given ones, its transmit interval
--            the least;
--   another  so it is a valid table of these senders in the same turn order;
--   any      it has level `Any`;
--   best     no table of the same senders in the same order with this level has a lesser longest cycle,
--   last     nor, with the same longest cycle, a greater synchronization gap,
--   least    nor, with the same synchronization gap, a lesser terminal gap.
pub record IsMade (bounds : Bounds) (table made : Table) : Type 0 where
  pub parts : made ≡ made_table table made.sg (gaps_of made)
  pub another : IsAnother table made (gaps_of made)
  pub any : level_of bounds made ≡ Any
  pub best : (other : Table) (gaps : List ℕ) → IsAnother table other gaps → level_of bounds other ≡ Any
      → most_apart bounds made ≤ most_apart bounds other
  pub last : (other : Table) (gaps : List ℕ) → IsAnother table other gaps → level_of bounds other ≡ Any
      → most_apart bounds other ≡ most_apart bounds made → other.sg ≤ made.sg
  pub least : (other : Table) (gaps : List ℕ) → IsAnother table other gaps → level_of bounds other ≡ Any → other.sg ≡ made.sg
      → AreAtMost (gaps_of made) gaps
