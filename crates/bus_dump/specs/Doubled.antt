-- Whether a terminal starts before a transmission of its own has ended.
use Rattle.std.specs.Prelude.{ℕ, Bool, false, ◌&&◌, ◌==◌, nat_lt, List, length, take, slice_get, Option}
use Rattle.std.specs.List.{list_any, find, range_with_len}
use Rattle.std.specs.Option.{option_map_or}
use Rattle.bus_strings.specs.Messages.{Entry}
use Rattle.bus_strings.specs.Transmissions.{end_of}

-- Whether x is still sent by the terminal of y where y starts.
abbrev pub runs_into : Entry → Entry → Bool
runs_into y x = x.terminal == y.terminal && nat_lt y.moment (end_of x)

-- Whether entry k starts before an earlier entry of its terminal has ended.
abbrev pub is_doubled : List Entry → ℕ → Bool
is_doubled list k = option_map_or (λ y. list_any (runs_into y) (take k list)) (slice_get list k) false

-- The first such entry, from 0.
abbrev pub doubled : List Entry → Option ℕ
doubled list = find (is_doubled list) (range_with_len 0 (length list))
