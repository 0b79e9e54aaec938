-- The canonical text of a table, as it is put into a buffer: each form as its bytes.
use Rattle.std.specs.Prelude.{ℕ, List, [], ◌∷◌, ◌++◌, codes, decimal, Option, Some, None}
use Rattle.std.specs.List.{flat_map}
use Rattle.bus_text.specs.Digits.{hex_digit, hexadecimal}
use Rattle.bus_table.specs.declared.mode.Mode.{Mode}
use Rattle.bus_table.specs.declared.mode.Mode.TheVariants.{Aperiodic, Periodic}
use Rattle.bus_table.specs.Text.{mode_word}
use Rattle.bus_table.specs.Tables.{SendLine, TakeLine, Sender, Listener, Table}

-- A keyword and a number.
abbrev pub number_bytes : List ℕ → ℕ → List ℕ
number_bytes keyword n = keyword ++ codes " " ++ decimal n ++ codes "\n"

-- The MODE line.
abbrev pub mode_bytes : Mode → List ℕ
mode_bytes mode = codes "MODE " ++ mode_word mode ++ 10 ∷ []

-- The four lines at the head.
abbrev pub head_bytes : Mode → (ti sg : ℕ) → List ℕ
head_bytes mode ti sg = codes "TABLE 1\n" ++ mode_bytes mode ++ number_bytes (codes "TI") ti ++ number_bytes (codes "SG") sg

-- A label and the byte of an extension, each before a space.
abbrev pub label_bytes : (label ext : ℕ) → List ℕ
label_bytes label ext = hexadecimal 3 label ++ 32 ∷ ext ∷ 32 ∷ []

-- Two numbers at the end of a line.
abbrev pub pair_bytes : (first second : ℕ) → List ℕ
pair_bytes first second = decimal first ++ codes " " ++ decimal second ++ codes "\n"

-- A SEND line.
abbrev pub send_bytes : SendLine → List ℕ
send_bytes line = codes "SEND " ++ label_bytes line.label (hex_digit line.ext) ++ pair_bytes line.least line.most

-- The digit of an extension, or `*`.
abbrev pub ext_byte : Option ℕ → ℕ
ext_byte None = 42
ext_byte (Some ext) = hex_digit ext

-- A TAKE line.
abbrev pub take_bytes : TakeLine → List ℕ
take_bytes line = codes "TAKE " ++ label_bytes line.label (ext_byte line.ext) ++ pair_bytes line.first line.count

-- The numbers of a SENDER line.
abbrev pub opening_bytes : (n tg : ℕ) → List ℕ
opening_bytes n tg = codes "SENDER " ++ decimal n ++ codes " TG " ++ decimal tg

-- The end of a SENDER line, which has an offset in periodic mode.
abbrev pub offset_bytes : Mode → ℕ → List ℕ
offset_bytes Aperiodic at = codes "\n"
offset_bytes Periodic at = codes " AT " ++ decimal at ++ codes "\n"

-- A sender block.
abbrev pub sender_bytes : Mode → Sender → List ℕ
sender_bytes mode sender =
    opening_bytes sender.number sender.tg ++ offset_bytes mode sender.at
    ++ flat_map send_bytes sender.sends ++ flat_map take_bytes sender.takes

-- A listener block.
abbrev pub listener_bytes : Listener → List ℕ
listener_bytes listener = number_bytes (codes "LISTENER") listener.number ++ flat_map take_bytes listener.takes

-- The whole text.
abbrev pub table_bytes : Table → List ℕ
table_bytes table =
    head_bytes table.mode table.ti table.sg
    ++ flat_map (sender_bytes table.mode) table.senders ++ flat_map listener_bytes table.listeners
