-- Labels and extensions, as tables write them.
use Rattle.std.specs.Prelude.{ℕ, nat_lt, List, [], ◌∷◌, codes, if◌then◌else◌}
use Rattle.bus_text.specs.Digits.{hex_digit, hexadecimal}

-- A label: the last three hexadecimal digits of a number.
abbrev pub label_text : ℕ → List ℕ
label_text n = hexadecimal 3 n

-- An extension: the digit of a number below 16, or `*` for every extension.
abbrev pub extension_text : ℕ → List ℕ
extension_text n = if nat_lt n 16 then hex_digit n ∷ [] else codes "*"
