-- The canonical text of items, by the fields of its lines.
use Rattle.std.specs.Prelude.{ℕ, List, ◌∷◌, map, codes, decimal}
use Rattle.std.specs.List.{flat_map}
use Rattle.bus_text.specs.Canonical.{spelled_lines}
use Rattle.bus_text.specs.Digits.{hexadecimal}
use Rattle.bus_text.specs.Headers.{header_fields}
use Rattle.bus_strings.specs.Items.{Item}

-- A colon, and four hexadecimal digits for each data word.
abbrev pub string_fields : List ℕ → List (List ℕ)
string_fields string = codes ":" ∷ map (hexadecimal 4) string

-- The fields of an item's line.
abbrev pub item_fields : Item → List (List ℕ)
item_fields item = codes "MSG" ∷ decimal item.terminal ∷ flat_map string_fields item.strings

-- The header, and a line for each item.
abbrev pub messages_text : List Item → List ℕ
messages_text items = spelled_lines (header_fields (codes "MESSAGES") ∷ map item_fields items)
