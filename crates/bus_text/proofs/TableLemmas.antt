-- Tables of the values of digits.
use Rattle.std.proofs.Common.{arith, zero, suc, ◌≡◌, ℕ, ◌+◌, ◌<◌, ◌≤◌, Bool, true, false, ◌&&◌, ◌==◌, cond, List, [], ◌∷◌, length, get_or, ap}
use Rattle.std.proofs.Common.{refl, ◌∙◌}
use Rattle.std.specs.Char.{is_ascii_hexdigit, digit_value}
use Rattle.std.proofs.lemmas.Bool.{and_parts, eqb-true}
use Rattle.std.specs.Prelude.{map, ◌*◌, ◌/◌, ◌%◌}
use Rattle.std.specs.List.{range_with_len}
use Rattle.std.proofs.lemmas.List.FromFn.{get_or-map-range_with_len}
use Rattle.bus_text.specs.Digits.{is_capital_digit, hexadecimal}
use Rattle.bus_text.specs.declared.digits.TheConstants.{PAIRS}
use Rattle.bus_text.proofs.DigitLaws.{digit_value-lt}
use Rattle.bus_text.proofs.NumberLaws.{hex_value-lt}

-- The values of the two tables.
abbrev pub hexadecimal_of : ℕ → ℕ
hexadecimal_of byte = cond (is_ascii_hexdigit byte) (digit_value byte) 61

abbrev pub capital_of : ℕ → ℕ
capital_of byte = cond (is_capital_digit byte) (digit_value byte) 61

-- Whether the entries are the values of the bytes from this one on.
abbrev pub agrees : (ℕ → ℕ) → ℕ → List ℕ → Bool
agrees value_of byte [] = true
agrees value_of byte (value ∷ values) = value == value_of byte && agrees value_of (suc byte) values

agrees_at : (value_of : ℕ → ℕ) (byte : ℕ) (values : List ℕ) (k : ℕ) → agrees value_of byte values ≡ true → k < length values
    → get_or values k 0 ≡ value_of (byte + k)
agrees_at value_of byte [] k h l = absurd (omega arith)
agrees_at value_of byte (value ∷ values) zero h l =
    eqb-true value (value_of byte) (and_parts (value == value_of byte) _ h).0 ∙ ap value_of (plus byte) where
      plus : (n : ℕ) → n ≡ n + 0
      plus n = omega arith
agrees_at value_of byte (value ∷ values) (suc k) h l =
    agrees_at value_of (suc byte) values k (and_parts (value == value_of byte) _ h).1 (omega arith) ∙ ap value_of (plus byte k) where
      plus : (n m : ℕ) → suc n + m ≡ n + suc m
      plus n m = omega arith

-- A table that agrees has each byte's value at its place.
pub values_at : (value_of : ℕ → ℕ) (values : List ℕ) (byte : ℕ) → agrees value_of 0 values ≡ true → length values ≡ 256 → byte < 256
    → get_or values byte 0 ≡ value_of byte
values_at value_of values byte h all l = agrees_at value_of 0 values byte h (omega (arith, all, l)) ∙ ap value_of (plus byte) where
  plus : (n : ℕ) → 0 + n ≡ n
  plus n = omega arith

pub capital_most : (byte v : ℕ) → v ≡ capital_of byte → v ≤ 61
capital_most byte v e = by (is_capital_digit byte) (digit_value-lt byte) e where
  by : (t : Bool) → (t ≡ true → digit_value byte < 16) → v ≡ cond t (digit_value byte) 61 → v ≤ 61
  by true h e = omega (arith, e, h refl)
  by false h e = omega (arith, e)

pub hexadecimal_most : (byte v : ℕ) → v ≡ hexadecimal_of byte → v ≤ 61
hexadecimal_most byte v e = by (is_ascii_hexdigit byte) (hex_value-lt byte) e where
  by : (t : Bool) → (t ≡ true → digit_value byte < 16) → v ≡ cond t (digit_value byte) 61 → v ≤ 61
  by true h e = omega (arith, e, h refl)
  by false h e = omega (arith, e)

-- The digit at a place of the table of pairs.
abbrev digit_at : ℕ → ℕ
digit_at place = get_or (hexadecimal 2 (place / 2)) (place % 2) 0

pairs_are : PAIRS ≡ map digit_at (range_with_len 0 512)
pairs_are = refl

at_place : (place : ℕ) → place < 512 → get_or PAIRS place 0 ≡ digit_at place
at_place place h = ap (λ table. get_or table place 0) pairs_are ∙ get_or-map-range_with_len digit_at 0 512 place place 0 h (omega arith)

-- The two digits of a byte stand in the table one behind the other.
pub pair_at : (byte : ℕ) → byte < 256 → get_or PAIRS (2 * byte) 0 ∷ get_or PAIRS (2 * byte + 1) 0 ∷ [] ≡ hexadecimal 2 byte
pair_at byte h = rw (at_place (2 * byte) (omega (arith, h)), at_place (2 * byte + 1) (omega (arith, h)), even byte, none byte, odd byte, one byte) refl where
  even : (n : ℕ) → 2 * n / 2 ≡ n
  even n = omega arith

  none : (n : ℕ) → 2 * n % 2 ≡ 0
  none n = omega arith

  odd : (n : ℕ) → (2 * n + 1) / 2 ≡ n
  odd n = omega arith

  one : (n : ℕ) → (2 * n + 1) % 2 ≡ 1
  one n = omega arith
