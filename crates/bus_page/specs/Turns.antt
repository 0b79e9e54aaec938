-- The turns of an aperiodic table: where the message of each sender lies in the shortest cycle and in the longest, from the beginning of
-- the synchronization gap on. A cycle is that gap, and then of each sender in turn order its terminal gap and its message.
use Rattle.std.specs.Prelude.{ℕ, ◌+◌, List, [], ◌∷◌}
use Rattle.bus_table.specs.Lengths.{longest, shortest}
use Rattle.bus_table.specs.Tables.{Sender, Table}
use Rattle.bus_table.specs.Turns.{turn_order}
pub use Rattle.bus_page.specs.declared.turn.Turn.{Turn}
pub use Rattle.bus_page.specs.declared.turn.Stretch.{Stretch}

-- A message behind a terminal gap that begins at a moment.
abbrev pub stretch_of : (tg from bits : ℕ) → Stretch
stretch_of tg from bits = record { gap = from; from = from + tg; to = from + tg + bits }

-- A sender's turn, whose terminal gap begins at these moments of the shortest and of the longest cycle.
abbrev pub turn_of : (short long : ℕ) → Sender → Turn
turn_of short long sender = record {
  number = sender.number;
  short = stretch_of sender.tg short (shortest sender);
  long = stretch_of sender.tg long (longest sender);
}

-- The turns of these senders, one behind the other.
abbrev pub turns_from : (short long : ℕ) → List Sender → List Turn
turns_from short long [] = []
turns_from short long (sender ∷ order) =
    turn_of short long sender
    ∷ turns_from (short + sender.tg + shortest sender) (long + sender.tg + longest sender) order

-- The turns of a table, in turn order.
abbrev pub turns_of : Table → List Turn
turns_of table = turns_from table.sg table.sg (turn_order table)
