-- The canonical text of a table, by the fields of its lines.
use Rattle.std.specs.Prelude.{ℕ, List, [], ◌∷◌, map, codes, decimal, Option, Some, None}
use Rattle.bus_text.specs.Canonical.{spelled_lines}
use Rattle.bus_text.specs.Digits.{hex_digit, hexadecimal}
use Rattle.bus_table.specs.declared.mode.Mode.{Mode}
use Rattle.bus_table.specs.declared.mode.Mode.TheVariants.{Aperiodic, Periodic}
use Rattle.bus_table.specs.Tables.{SendLine, TakeLine, Table}
use Rattle.bus_table.specs.Text.{Line, TableLine, ModeLine, TiLine, SgLine, SenderLine, Sends, Takes, ListenerLine, lines_of, mode_word}

-- The fields of a SENDER line, which has an offset in periodic mode.
abbrev pub sender_fields : Mode → (n tg at : ℕ) → List (List ℕ)
sender_fields Aperiodic n tg at = codes "SENDER" ∷ decimal n ∷ codes "TG" ∷ decimal tg ∷ []
sender_fields Periodic n tg at = codes "SENDER" ∷ decimal n ∷ codes "TG" ∷ decimal tg ∷ codes "AT" ∷ decimal at ∷ []

-- The fields of a SEND line, hexadecimal digits in capitals.
abbrev pub send_fields : SendLine → List (List ℕ)
send_fields line =
    codes "SEND" ∷ hexadecimal 3 line.label ∷ (hex_digit line.ext ∷ []) ∷ decimal line.least ∷ decimal line.most ∷ []

-- The digit of an extension, or `*` for every extension.
abbrev pub ext_field : Option ℕ → List ℕ
ext_field None = codes "*"
ext_field (Some ext) = hex_digit ext ∷ []

-- The fields of a TAKE line, hexadecimal digits in capitals.
abbrev pub take_fields : TakeLine → List (List ℕ)
take_fields line = codes "TAKE" ∷ hexadecimal 3 line.label ∷ ext_field line.ext ∷ decimal line.first ∷ decimal line.count ∷ []

-- The fields of a line, in a table of this mode.
abbrev pub line_fields : Mode → Line → List (List ℕ)
line_fields mode TableLine = codes "TABLE" ∷ codes "1" ∷ []
line_fields mode (ModeLine m) = codes "MODE" ∷ mode_word m ∷ []
line_fields mode (TiLine ti) = codes "TI" ∷ decimal ti ∷ []
line_fields mode (SgLine sg) = codes "SG" ∷ decimal sg ∷ []
line_fields mode (SenderLine n tg at) = sender_fields mode n tg at
line_fields mode (Sends line) = send_fields line
line_fields mode (Takes line) = take_fields line
line_fields mode (ListenerLine n) = codes "LISTENER" ∷ decimal n ∷ []

-- The lines of a table and no other, one space between fields, none at the ends, a line feed behind each line.
abbrev pub table_text : Table → List ℕ
table_text table = spelled_lines (map (line_fields table.mode) (lines_of table))
