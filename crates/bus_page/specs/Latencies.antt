-- How old data are at most when they have been received, label by label: a table with a row for each SEND line.
--   most   the verdict's: two starts of a sender are at most so far apart
use Rattle.std.specs.Prelude.{ℕ, List, [], ◌∷◌, ◌++◌, codes, decimal, Option, Some, None}
use Rattle.std.specs.List.{flat_map}
use Rattle.bus_text.specs.Digits.{hexadecimal, hex_digit}
use Rattle.bus_table.specs.declared.line.SendLine.{SendLine}
use Rattle.bus_table.specs.Tables.{Sender, Table}
use Rattle.bus_say.specs.Times.{time_text}
use Rattle.bus_reach.specs.Latency.{latency}
use Rattle.bus_page.specs.Messages.{terminal_name}
use Rattle.bus_page.specs.Rows.{rows}

-- Between two fields of a row.
abbrev pub next_field : List ℕ
next_field = codes "</td><td>"

-- The label and extension of a SEND line, as table texts write them, and the terminal that sends it.
abbrev pub label_fields : ℕ → SendLine → List ℕ
label_fields number line =
    hexadecimal 3 line.label ++ codes " " ++ hex_digit line.ext ∷ [] ++ next_field ++ terminal_name number

-- How many data words it has.
abbrev pub words_fields : SendLine → List ℕ
words_fields line = decimal line.least ++ codes " to " ++ decimal line.most

-- The latency with delays up to the tolerance, where that has an end.
abbrev pub delayed_words : Table → (most : ℕ) → Option ℕ → Sender → ℕ → List ℕ
delayed_words table most None sender place = codes "-"
delayed_words table most (Some d) sender place = time_text (latency table most d sender place)

-- The latency without delays, and that with some.
abbrev pub latency_fields : Table → (most : ℕ) → Option ℕ → Sender → ℕ → List ℕ
latency_fields table most tolerance sender place =
    time_text (latency table most 0 sender place) ++ next_field ++ delayed_words table most tolerance sender place

-- The row of the line at this place of a sender, from 0.
abbrev pub row_text : Table → (most : ℕ) → Option ℕ → Sender → ℕ → SendLine → List ℕ
row_text table most tolerance sender place line =
    codes "<tr><td>" ++ label_fields sender.number line ++ next_field ++ words_fields line ++ next_field
    ++ latency_fields table most tolerance sender place ++ codes "</td></tr>\n"

-- The rows of a sender, by the places of its lines.
abbrev pub sender_rows : Table → (most : ℕ) → Option ℕ → Sender → List ℕ
sender_rows table most tolerance sender = rows (row_text table most tolerance sender) 1 0 sender.sends

-- The names of the columns.
unfoldable pub columns_text : List ℕ
columns_text =
    codes "<table>\n<thead><tr><th>label, extension</th><th>sent by</th><th>data words</th>\n"
    ++ codes "<th>without delays</th><th>with delays up to the tolerance</th></tr></thead>\n"
    ++ codes "<tbody>\n"

-- The table.
abbrev pub latencies_text : Table → (most : ℕ) → Option ℕ → List ℕ
latencies_text table most tolerance =
    columns_text ++ flat_map (sender_rows table most tolerance) table.senders ++ codes "</tbody>\n</table>\n"
