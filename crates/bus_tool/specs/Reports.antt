-- The text of a report: the verdict on a table and its figures, as one JSON object without blanks and a line feed. The keys of each object
-- stand in the order of their bytes, the senders in turn order.
use Rattle.std.specs.Prelude.{ℕ, List, ◌++◌, map, codes, decimal}
use Rattle.std.specs.List.{join_with_byte}
use Rattle.bus_table.specs.Lengths.{shortest, longest}
use Rattle.bus_table.specs.Tables.{Sender, Table}
use Rattle.bus_table.specs.Turns.{turn_order}
use Rattle.bus_regime.specs.Lines.{verdict_words}
use Rattle.bus_table.specs.Text.{mode_word}
use Rattle.bus_regime.specs.Verdicts.{verdict_of}

-- A sender: its offset, its longest message, its number, its shortest message and its terminal gap.
abbrev pub sender_text : Sender → List ℕ
sender_text sender =
    codes "{\"at\":" ++ decimal sender.at ++ codes ",\"longest\":" ++ decimal (longest sender)
    ++ codes ",\"number\":" ++ decimal sender.number ++ codes ",\"shortest\":" ++ decimal (shortest sender)
    ++ codes ",\"tg\":" ++ decimal sender.tg ++ codes "}"

-- Senders, a comma between two.
abbrev pub senders_text : List Sender → List ℕ
senders_text senders = join_with_byte 44 (map sender_text senders)

-- The report of a table.
abbrev pub report_text : Table → List ℕ
report_text table =
    codes "{\"line\":\"" ++ verdict_words (verdict_of table) ++ codes "\",\"mode\":\"" ++ mode_word table.mode ++ codes "\",\"senders\":["
    ++ senders_text (turn_order table) ++ codes "],\"sg\":" ++ decimal table.sg ++ codes ",\"ti\":" ++ decimal table.ti ++ codes "}\n"
