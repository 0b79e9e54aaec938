-- Digits that are read four by four.
use Rattle.std.specs.Char.{is_ascii_digit}
use Rattle.std.specs.Prelude.{◌≡◌, ◌+◌, ◌-◌, ◌*◌, ℕ, true}

-- These four bytes are digits, which write the number.
pub record AreDigits (a b c d number : ℕ) : Type 0 where
  pub first : is_ascii_digit a ≡ true
  pub second : is_ascii_digit b ≡ true
  pub third : is_ascii_digit c ≡ true
  pub fourth : is_ascii_digit d ≡ true
  pub value : number ≡ 1000 * (a - 48) + 100 * (b - 48) + 10 * (c - 48) + (d - 48)
