-- The canonical text of items, as it is put into a buffer: each form as its bytes.
use Rattle.std.specs.Prelude.{ℕ, List, ◌∷◌, ◌++◌, codes, decimal}
use Rattle.std.specs.List.{flat_map}
use Rattle.bus_text.specs.Digits.{hexadecimal}
use Rattle.bus_strings.specs.Items.{Item}

-- A space, and the four digits of a data word.
abbrev pub word_bytes : ℕ → List ℕ
word_bytes word = 32 ∷ hexadecimal 4 word

-- A colon, and the data words of a wordstring.
abbrev pub string_bytes : List ℕ → List ℕ
string_bytes string = codes " :" ++ flat_map word_bytes string

-- The line of an item.
abbrev pub item_bytes : Item → List ℕ
item_bytes item = codes "MSG " ++ decimal item.terminal ++ flat_map string_bytes item.strings ++ codes "\n"

-- The header, and the lines of the items.
abbrev pub messages_bytes : List Item → List ℕ
messages_bytes items = codes "MESSAGES 1\n" ++ flat_map item_bytes items
