-- What is seen of a list of transmissions at a bit time, of each whose span holds it.
use Rattle.std.specs.Prelude.{ℕ, ◌+◌, ◌-◌, Bool, ◌&&◌, ◌==◌, nat_lt, nat_le, List, length, take, slice_get}
use Rattle.std.specs.Prelude.{Option, Some, None, if◌then◌else◌}
use Rattle.std.specs.List.{count_by, filter_map, range_with_len}
use Rattle.std.specs.Option.{option_and_then}
use Rattle.bus_strings.specs.Messages.{Entry}
use Rattle.bus_strings.specs.Transmissions.{end_of, garbled}
use Rattle.bus_dump.specs.OnBus.{shown_at}
pub use Rattle.bus_dump.specs.declared.shown.Seen.{Seen}

-- Whether the span of a transmission holds bit time t.
abbrev pub holds : ℕ → Entry → Bool
holds t x = nat_le x.moment t && nat_lt t (end_of x)

-- Whether a transmission is of a terminal.
abbrev pub is_sent_by : ℕ → Entry → Bool
is_sent_by terminal x = x.terminal == terminal

-- The number of entry k, which is of this terminal: how many of the entries up to it are of the terminal.
abbrev pub number_of : List Entry → ℕ → ℕ → ℕ
number_of list k terminal = count_by (is_sent_by terminal) (take (k + 1) list)

-- What is seen of entry k at bit time t, given the entry.
abbrev pub seen_of : List Entry → ℕ → ℕ → Entry → Seen
seen_of list t k x = record {
  terminal = x.terminal;
  number = number_of list k x.terminal;
  garbled = garbled list k;
  shown = shown_at x.message (t - x.moment);
}

-- What is seen of entry k at bit time t, if its span holds t.
abbrev pub seen_entry : List Entry → ℕ → ℕ → Option Seen
seen_entry list t k = option_and_then (λ x. if holds t x then Some (seen_of list t k x) else None) (slice_get list k)

-- What is seen at bit time t.
abbrev pub seen_at : List Entry → ℕ → List Seen
seen_at list t = filter_map (seen_entry list t) (range_with_len 0 (length list))
