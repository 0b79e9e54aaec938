-- The holds of a trace that is read from a wave: one for each sender, with the number of its entries.
use Rattle.std.specs.Prelude.{ℕ, ◌==◌, is_some, List, count_by, Option, Some, None, if◌then◌else◌}
use Rattle.std.specs.List.{filter_map, range_with_len}
use Rattle.bus_strings.specs.Limits.{most_terminal}
use Rattle.bus_strings.specs.Messages.{Entry}
use Rattle.bus_table.specs.Tables.{Sender, Table}
use Rattle.bus_table.specs.Fits.{sender_of}
use Rattle.bus_trace.specs.declared.hold.Hold.{Hold}

-- How many entries are of a terminal.
abbrev pub entries_of : List Entry → ℕ → ℕ
entries_of list terminal = count_by (λ x. x.terminal == terminal) list

-- The hold of the sender with a number, where there is one, with a count.
abbrev pub hold_of : List Sender → ℕ → ℕ → Option Hold
hold_of senders number count = if is_some (sender_of senders number) then Some (record { terminal = number; count = count }) else None

-- The hold of the sender with a number, where there is one, with the number of its entries.
abbrev pub hold_at : List Sender → List Entry → ℕ → Option Hold
hold_at senders list number = hold_of senders number (entries_of list number)

-- The holds of the senders of a table, by rising number.
unfoldable pub holds_of : Table → List Entry → List Hold
holds_of table list = filter_map (hold_at table.senders list) (range_with_len 1 most_terminal)
