-- Who sends and who takes, as a table in HTML: a row for each terminal, a column for each sender, as they stand in the table, and a mark
-- where the terminal of the row takes words of that of the column.
use Rattle.std.specs.Prelude.{ℕ, ◌==◌, Bool, List, ◌++◌, decimal, if◌then◌else◌}
use Rattle.std.specs.List.{flat_map, list_any}
use Rattle.bus_table.specs.Tables.{Sender, Listener, Table}
use Rattle.bus_filter.specs.Received.{Taker, sender_taker, listener_taker}
use Rattle.bus_feeds.specs.Feeds.{is_feeder}
use Rattle.bus_takes.specs.declared.matrix.TheConstants as the

-- Whether a terminal takes words of a sender: that is another, and one of its SEND lines feeds one of the terminal's TAKE lines.
abbrev pub takes_of : Taker → Sender → Bool
takes_of taker sender = list_any (λ take. is_feeder taker.number take sender) taker.takes

-- The cell of both.
abbrev pub cell_text : Taker → Sender → List ℕ
cell_text taker sender =
    if sender.number == taker.number then the.OWN_CELL.now else if takes_of taker sender then the.MARKED_CELL.now else the.EMPTY_CELL.now

-- The row of a terminal.
abbrev pub row_text : Table → Taker → List ℕ
row_text table taker =
    the.ROW.now ++ decimal taker.number ++ the.BEHIND_NUMBER.now ++ flat_map (cell_text taker) table.senders ++ the.ROW_END.now

abbrev pub sender_row : Table → Sender → List ℕ
sender_row table sender = row_text table (sender_taker sender)

abbrev pub listener_row : Table → Listener → List ℕ
listener_row table listener = row_text table (listener_taker listener)

-- What stands above the column of a sender.
abbrev pub column_text : Sender → List ℕ
column_text sender = the.COLUMN.now ++ decimal sender.number ++ the.BEHIND_NUMBER.now

-- The whole.
abbrev pub matrix_text : Table → List ℕ
matrix_text table =
    the.MATRIX.now ++ flat_map column_text table.senders ++ the.ROW_END.now ++ flat_map (sender_row table) table.senders
    ++ flat_map (listener_row table) table.listeners ++ the.MATRIX_END.now
