-- Which item may come next: moments are judged in bit times, rounded down.
--   place   the bit time of the last moment that was told, and the terminal of the last transmission there, or 0
use Rattle.std.specs.Prelude.{ℕ, ◌/◌, Bool, ◌&&◌, ◌||◌, ◌==◌, nat_le, nat_lt, Option, Some, None, if◌then◌else◌}
use Rattle.bus_stream.specs.declared.item.Item.{Item}
use Rattle.bus_stream.specs.declared.item.Item.TheVariants.{Sent, Told, Lost}
use Rattle.bus_stream.specs.declared.place.Place.{Place}

-- The bit time of a moment in nanoseconds.
abbrev pub bit_of : ℕ → ℕ
bit_of time = time / 500

abbrev pub start : Place
start = record { bit = 0; terminal = 0 }

-- With all told up to a bit time.
abbrev pub told_to : Place → ℕ → Place
told_to place bit = if place.bit == bit then place else record { bit = bit; terminal = 0 }

-- A transmission comes behind what was told: transmissions strictly ascend, by bit time and then terminal.
abbrev pub is_behind : Place → ℕ → ℕ → Bool
is_behind place bit terminal = nat_lt place.bit bit || (place.bit == bit && nat_lt place.terminal terminal)

-- The place behind an item; none where the item may not come.
abbrev pub place_after : Place → Item → Option Place
place_after place (Sent time terminal message) =
    if is_behind place (bit_of time) terminal then Some (record { bit = bit_of time; terminal = terminal }) else None
place_after place (Told time) = if nat_le place.bit (bit_of time) then Some (told_to place (bit_of time)) else None
place_after place (Lost from to) =
    if nat_le place.bit (bit_of from) && nat_le (bit_of from) (bit_of to) then Some (told_to place (bit_of to)) else None
