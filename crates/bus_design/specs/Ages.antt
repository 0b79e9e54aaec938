-- How old what is known of a sender may be: from the start of the transmission that told it to when the next one has been heard out.
use Rattle.std.specs.Prelude.{◌≡◌, ℕ, ◌+◌, ◌<◌, ◌≤◌, List, ◌∷◌, ◌++◌, length}
use Rattle.bus_table.specs.Tables.{Table}
use Rattle.bus_table.specs.Turns.{turn_order}
use Rattle.bus_bounds.specs.Bounds.{Bounds}
use Rattle.bus_clocks.specs.Courses.{Course, IsCourse}
use Rattle.bus_clocks.specs.Entries.{Entry, In, end_of}
use Rattle.bus_clocks.specs.Settling.{HasSettled}
use Rattle.bus_margins.specs.Buses.{bus_of}
use Rattle.bus_margins.specs.Rooms.{level_of, most_apart}
use Rattle.bus_margins.specs.declared.level.Level.TheVariants.{Any}
use Rattle.bus_design.specs.Bests.{IsMade}
use Rattle.bus_design.specs.Others.{IsAnother}

-- The worst age of what is known of the sender at this place in turn order, in nanoseconds: the longest cycle, the sender's longest message,
-- and the delay with which it is heard out.
abbrev pub age_of : Bounds → Table → ℕ → ℕ
age_of bounds table place = most_apart bounds table + (bus_of bounds table).longest place + bounds.delay

-- Of these transmissions y is the next behind x of the same sender:
--   before, between, rest    the others before, between and behind the two
pub record AreNext (list : List Entry) (x y : Entry) : Type 0 where
  pub before : List Entry
  pub between : List Entry
  pub rest : List Entry
  pub parts : list ≡ before ++ x ∷ (between ++ y ∷ rest)
  pub same : y.sender ≡ x.sender
  pub none : (z : Entry) → In z between → z.sender ≡ x.sender → ⊥

-- Where order has come, what is known of a sender is never older.
abbrev pub AgesAreBounded : Type 0
AgesAreBounded =
    (bounds : Bounds) (table : Table) (c : Course) (up origin : ℕ) (x y : Entry) → IsCourse (bus_of bounds table) c
    → (settled : HasSettled (bus_of bounds table) c up origin) → AreNext settled.rounds x y
    → end_of y + bounds.delay ≤ x.moment + age_of bounds table x.sender

-- And the made table has the least ages of all at once: no table of the same senders in the same order that has level `Any` has a lesser
-- one, of any sender.
abbrev pub MadeHasLeastAges : Type 0
MadeHasLeastAges =
    (bounds : Bounds) (table made other : Table) (gaps : List ℕ) (place : ℕ) → IsMade bounds table made → IsAnother table other gaps
    → level_of bounds other ≡ Any → place < length (turn_order table) → age_of bounds made place ≤ age_of bounds other place
