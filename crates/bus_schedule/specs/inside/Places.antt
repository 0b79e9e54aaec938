-- Turn order by places.
use Rattle.std.specs.Prelude.{◌≡◌, ℕ, List, map, slice_get, Some}
use Rattle.bus_table.specs.Tables.{Table}
use Rattle.bus_table.specs.Turns.{turn_order}

-- These are the places of the senders in the table, in turn order.
abbrev pub AreInTurn : Table → List ℕ → Type 0
AreInTurn table places = map (slice_get table.senders) places ≡ map Some (turn_order table)
