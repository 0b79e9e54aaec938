-- The received text: what each terminal of a table receives of a list, terminal by terminal.
use Rattle.std.specs.Prelude.{ℕ, List, [], ◌∷◌, ◌++◌, codes, length, decimal}
use Rattle.std.specs.List.{flat_map, sum_by}
use Rattle.bus_text.specs.Digits.{hex_digit, hexadecimal}
use Rattle.bus_strings.specs.Messages.{Entry}
use Rattle.bus_table.specs.Tables.{Table}
use Rattle.bus_filter.specs.Received.{ReceivedLine, Taker, received_by, takers}

-- A word: a space, and four hexadecimal digits in capitals.
abbrev pub word_text : ℕ → List ℕ
word_text word = codes " " ++ hexadecimal 4 word

-- `RX m l e w ..`: at moment m began a transmission of which these words of a wordstring of label l and extension e are received.
abbrev pub line_text : ReceivedLine → List ℕ
line_text line =
    codes "RX " ++ decimal line.moment ++ codes " " ++ hexadecimal 3 line.label ++ codes " " ++ hex_digit line.ext ∷ []
    ++ flat_map word_text line.words ++ codes "\n"

-- `TERMINAL n`, and what that terminal receives.
abbrev pub taker_text : List Entry → Taker → List ℕ
taker_text list taker = codes "TERMINAL " ++ decimal taker.number ++ codes "\n" ++ flat_map line_text (received_by list taker)

-- The one text of what the terminals of a table receive of a list: `RECEIVED 1`, each terminal, and `END`.
abbrev pub received_text : Table → List Entry → List ℕ
received_text table list = codes "RECEIVED 1\n" ++ flat_map (taker_text list) (takers table) ++ codes "END\n"

-- How many RX lines that text has.
abbrev pub received_count : Table → List Entry → ℕ
received_count table list = sum_by (λ taker. length (received_by list taker)) (takers table)
