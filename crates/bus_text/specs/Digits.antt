-- Hexadecimal digits as they are written: in capitals.
use Rattle.std.specs.Prelude.{ℕ, zero, suc, ◌+◌, ◌/◌, ◌%◌, nat_lt, Bool, ◌||◌, List, [], ◌∷◌, ◌++◌, if◌then◌else◌}
use Rattle.std.specs.Int.{is_in_range}

-- The digit of a number below 16: `0` to `9`, then `A` to `F`.
abbrev pub hex_digit : ℕ → ℕ
hex_digit n = if nat_lt n 10 then 48 + n else 55 + n

-- Whether a byte is one of these sixteen digits.
abbrev pub is_capital_digit : ℕ → Bool
is_capital_digit byte = is_in_range 48 57 byte || is_in_range 65 70 byte

-- The last digits of a number, so many of them.
abbrev pub hexadecimal : ℕ → ℕ → List ℕ
hexadecimal zero n = []
hexadecimal (suc count) n = hexadecimal count (n / 16) ++ hex_digit (n % 16) ∷ []
