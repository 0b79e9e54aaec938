-- What the level of a table says of its bus.
use Rattle.std.specs.Prelude.{◌≡◌, ◌≢◌, ℕ, ◌+◌, ◌≤◌, ◌↔◌, false, IsTrue}
use Rattle.bus_table.specs.declared.mode.Mode.TheVariants.{Aperiodic}
use Rattle.bus_table.specs.Tables.{Table}
use Rattle.bus_table.specs.Valid.{is_valid}
use Rattle.bus_bounds.specs.Bounds.{Bounds}
use Rattle.bus_clocks.specs.Buses.{among}
use Rattle.bus_clocks.specs.Entries.{AreClear}
use Rattle.bus_clocks.specs.Courses.{Course, IsCourse, HaveLeft, IsLeftAlone}
use Rattle.bus_clocks.specs.Room.{LeavesRoom, StartsItself, HasCycle}
use Rattle.bus_clocks.specs.Rounds.{least_round, most_round}
use Rattle.bus_clocks.specs.Order.{IsCold, ArePoweredWithin, AreEven, IsInOrder}
use Rattle.bus_clocks.specs.Settling.{HasSettled}
use Rattle.bus_clocks.specs.Growing.{IsJoined, InGrowing}
use Rattle.bus_margins.specs.declared.level.Level.TheVariants.{Any, Neither}
use Rattle.bus_margins.specs.Rooms.{level_of, least_apart, most_apart}
use Rattle.bus_margins.specs.Buses.{bus_of}

-- A valid aperiodic table. What is said here holds of it within any bounds.
pub record IsAperiodic (table : Table) : Type 0 where
  pub valid : IsTrue (is_valid table)
  pub mode : table.mode ≡ Aperiodic

-- ---- level `Any`

-- It is that the bus of the table has room, and starts itself.
abbrev pub AnyIsRoom : Type 0
AnyIsRoom =
    (bounds : Bounds) (table : Table) → IsAperiodic table
    → (level_of bounds table ≡ Any) ↔ (LeavesRoom (bus_of bounds table) × StartsItself (bus_of bounds table))

-- So every course of it comes into order by itself once it is left alone, whatever it did before: the last transmission before the rounds
-- has been heard by all when as much has passed as lies between two starts of a sender at most.
abbrev pub AnySettles : Type 0
AnySettles =
    (bounds : Bounds) (table : Table) (c : Course) (up : ℕ) → IsAperiodic table → level_of bounds table ≡ Any
    → IsCourse (bus_of bounds table) c → HaveLeft (bus_of bounds table) c → IsLeftAlone (bus_of bounds table) c up
    → (origin : ℕ) × (origin + (among (bus_of bounds table)).delay ≤ up + most_apart bounds table)
    × HasSettled (bus_of bounds table) c up origin

-- And senders that are powered up later join, and disturb nobody.
abbrev pub AnyJoins : Type 0
AnyJoins =
    (bounds : Bounds) (table : Table) (c : Course) (v : ℕ) → IsAperiodic table → level_of bounds table ≡ Any
    → IsCourse (bus_of bounds table) c → HaveLeft (bus_of bounds table) c → IsJoined (bus_of bounds table) c v
    → InGrowing (bus_of bounds table) c (bus_of bounds table).senders (λ _. false) v c.list × AreClear bounds.delay c.list

-- ---- level `Any` or `Common`

-- It is that the bus of the table has room, and no transmit interval outlasts its shortest cycle.
abbrev pub LevelIsRoom : Type 0
LevelIsRoom =
    (bounds : Bounds) (table : Table) → IsAperiodic table
    → (level_of bounds table ≢ Neither) ↔ (LeavesRoom (bus_of bounds table) × HasCycle (bus_of bounds table))

-- So every course of it is in order that begins cold, whose senders are powered up at about the same time, with as many messages each.
abbrev pub LevelKeepsOrder : Type 0
LevelKeepsOrder =
    (bounds : Bounds) (table : Table) (c : Course) → IsAperiodic table → level_of bounds table ≢ Neither
    → IsCourse (bus_of bounds table) c → IsCold (bus_of bounds table) c → ArePoweredWithin (bus_of bounds table) c
    → AreEven (bus_of bounds table) c
    → IsInOrder (bus_of bounds table) c

-- How far apart successive starts are told to be is a round of that bus, at least and at most.
abbrev pub ApartIsARound : Type 0
ApartIsARound =
    (bounds : Bounds) (table : Table)
    → (least_apart bounds table ≡ least_round (among (bus_of bounds table)))
    × (most_apart bounds table ≡ most_round (among (bus_of bounds table)))
