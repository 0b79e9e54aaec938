-- The lanes of terminals, by which the shades of boxes go: neighbours in turn order have different ones.
use Rattle.std.specs.Prelude.{ℕ, ◌+◌, ◌==◌, List, [], ◌∷◌, map, if◌then◌else◌}
use Rattle.std.specs.List.{range_with_len}
use Rattle.bus_table.specs.Tables.{Sender, Table}
use Rattle.bus_table.specs.Turns.{turn_order}

-- The lane of a terminal, where that of the first of these senders is lane k: the place of its sender, and behind all of them by number.
abbrev pub lane_from : ℕ → ℕ → List Sender → ℕ
lane_from k terminal [] = k + terminal
lane_from k terminal (sender ∷ senders) = if sender.number == terminal then k else lane_from (k + 1) terminal senders

-- The lane of a terminal: its place in turn order, and behind all senders by number.
abbrev pub lane_of : Table → ℕ → ℕ
lane_of table terminal = lane_from 0 terminal (turn_order table)

-- The lane of each number that a terminal could have.
abbrev pub lanes_of : Table → List ℕ
lanes_of table = map (lane_of table) (range_with_len 0 256)
