-- How parts, and what is kept of a stream, stand up to a place of the stream.
use Rattle.std.specs.Prelude.{◌≡◌, ℕ, ◌+◌, ◌-◌, ◌*◌, ◌^◌, ◌<◌, ◌≤◌, ◌⊎◌, IfSome, List, ◌++◌}
use Rattle.std.specs.declared.option.Option.{Option}
use Rattle.bus_outer.specs.Texts.{Adds}
use Rattle.bus_outer.specs.declared.text_buffer.TextBuffer.{TextBuffer}
use Rattle.bus_strings.specs.Limits.{horizon_limit, most_terminal}
use Rattle.bus_strings.specs.Members.{In}
use Rattle.bus_strings.specs.Messages.{Entry, Message}
use Rattle.bus_table.specs.Tables.{Table}
use Rattle.bus_findings.specs.Growing.{Precede}
use Rattle.bus_stream.specs.declared.item.Item.{Item}
use Rattle.bus_stream.specs.declared.item.Item.TheVariants.{Sent, Told, Lost}
use Rattle.bus_stream.specs.declared.place.Place.{Place}
use Rattle.bus_stream.specs.Places.{bit_of}
use Rattle.bus_watch.specs.declared.part.Part.{Part}
use Rattle.bus_watch.specs.declared.state.State.{State}
use Rattle.bus_watch.specs.declared.window.Window.{Window}
use Rattle.bus_watch.specs.Parts.{counted}

-- What is recorded was told up to a place.
abbrev pub IsTold : ℕ → Place → Entry → Type 0
IsTold base place z = (z.moment + base < place.bit) ⊎ ((z.moment + base ≡ place.bit) × (z.terminal ≤ place.terminal))

pub record IsWindow (table : Table) (place : Place) (window : Window) : Type 0 where
  pub of_table : window.live.table ≡ table
  pub begun : window.base ≤ place.bit
  pub told : (z : Entry) → In z window.live.list → IsTold window.base place z

-- What a part keeps, up to a place.
pub record IsPart (table : Table) (place : Place) (part : Part) : Type 0 where
  pub of_older : IsWindow table place part.older
  pub of_newer : IsWindow table place part.newer
  pub later : part.older.base ≤ part.newer.base
  pub told_to : bit_of part.told ≡ place.bit
  pub small : part.count ≤ part.sent
  pub few : part.faults ≤ part.sent

-- A transmission at a bit time of a terminal may be taken into a window,
pub record HasRoom (table : Table) (window : Window) (bit terminal : ℕ) : Type 0 where
  pub of_table : window.live.table ≡ table
  pub begun : window.base ≤ bit
  pub precede : (message : Message) → Precede window.live.list (counted window.base bit terminal message)

-- and into a part.
pub record CanTake (table : Table) (part : Part) (bit terminal : ℕ) : Type 0 where
  pub of_older : HasRoom table part.older bit terminal
  pub of_newer : HasRoom table part.newer bit terminal
  pub later : part.older.base ≤ part.newer.base
  pub near : bit < part.older.base + horizon_limit
  pub low : 500 * bit < 2 ^ 64
  pub small : part.count ≤ part.sent
  pub few : part.faults ≤ part.sent
  pub more : part.sent < 2 ^ 64 - 1

-- What is kept of a stream.
pub record IsState (table : Table) (s : State) : Type 0 where
  pub part : IfSome s.part (λ part. IsPart table s.place part)
  pub few : IfSome s.part (λ part. part.sent ≤ s.number)
  pub low : 500 * s.place.bit < 2 ^ 64

-- An item of a terminal that there is, and of moments that there are.
abbrev pub IsItem : Item → Type 0
IsItem (Sent time terminal message) = (1 ≤ terminal) × (terminal ≤ most_terminal) × (time < 2 ^ 64)
IsItem (Told time) = time < 2 ^ 64
IsItem (Lost from to) = (from < 2 ^ 64) × (to < 2 ^ 64)

-- A call adds a front of these bytes to the text, whatever it was.
pub record AddsFront {K : Type 0} (held : K → Option (List ℕ)) (faults : K → ℕ) (k k' : K) (old new : TextBuffer) (bytes : List ℕ)
    : Type 0 where
  pub some : List ℕ
  pub rest : List ℕ
  pub adds : Adds held faults k k' old new some
  pub front : bytes ≡ some ++ rest
