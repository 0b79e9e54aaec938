-- The lanes of a dump: the terminals that have signals, in their order.
use Rattle.std.specs.Prelude.{ℕ, Bool, not, ◌&&◌, ◌==◌, true, false, List, ◌++◌, map, filter}
use Rattle.std.specs.List.{list_any, range_with_len}
use Rattle.bus_strings.specs.Limits.{most_terminal}
use Rattle.bus_strings.specs.Messages.{Entry}
use Rattle.bus_table.specs.Tables.{Sender, Table}
use Rattle.bus_table.specs.Turns.{turn_order}
pub use Rattle.bus_dump.specs.declared.lane.Lane.{Lane}

-- Whether a terminal is a sender of the table.
abbrev pub is_sender : Table → ℕ → Bool
is_sender table terminal = list_any (λ (sender : Sender). sender.number == terminal) table.senders

-- Whether a terminal sends in the list.
abbrev pub sends : List Entry → ℕ → Bool
sends list terminal = list_any (λ (x : Entry). x.terminal == terminal) list

-- Whether a terminal sends in the list without being a sender of the table.
abbrev pub is_stranger : Table → List Entry → ℕ → Bool
is_stranger table list terminal = not (is_sender table terminal) && sends list terminal

-- The lane of a terminal that is a sender or not.
abbrev pub lane_with : Bool → ℕ → Lane
lane_with sender terminal = record { terminal = terminal; sender = sender }

-- The lane of a sender.
abbrev pub sender_lane : Sender → Lane
sender_lane sender = lane_with true sender.number

-- The lane of a stranger.
abbrev pub stranger_lane : ℕ → Lane
stranger_lane terminal = lane_with false terminal

-- The senders in turn order, then the strangers of the list by number.
abbrev pub lanes : Table → List Entry → List Lane
lanes table list =
    map sender_lane (turn_order table) ++ map stranger_lane (filter (is_stranger table list) (range_with_len 1 most_terminal))
