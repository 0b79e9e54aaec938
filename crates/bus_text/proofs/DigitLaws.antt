-- Laws of hexadecimal digits: what is written reads as the number again.
use Rattle.std.proofs.Common.{arith, zero, suc, ◌≡◌, ℕ, ◌/◌, ◌%◌, ◌<◌, ◌^◌, Bool, true, ◌&&◌, List, [], ◌∷◌, ◌++◌, length, refl, ap, ◌∙◌}
use Rattle.std.proofs.Common.{length-append}
use Rattle.std.specs.Char.{digit_value, is_ascii_hexdigit}
use Rattle.std.specs.List.{AllByRecursion, list_all}
use Rattle.std.specs.Str.Parse.{digits_value}
use Rattle.std.proofs.lemmas.Bool.{eq-eqb}
use Rattle.std.proofs.lemmas.Bool.Decides.{nat_tests}
use Rattle.std.proofs.lemmas.Int.Digits.{digits_value_push}
use Rattle.bus_text.specs.inside.Spelled.{IsFieldByte, IsField}
use Rattle.bus_text.specs.Digits.{hex_digit, is_capital_digit, hexadecimal}
use Rattle.bus_text.specs.Numbers.{IsHexadecimal}

-- the value of the digit of a number is the number
pub digit_value-hex_digit : (d : ℕ) → d < 16 → digit_value (hex_digit d) ≡ d
digit_value-hex_digit d h = grind (arith, nat_tests)

digit_is_hex : (d : ℕ) → d < 16 → is_ascii_hexdigit (hex_digit d) ≡ true
digit_is_hex d h = grind (arith, nat_tests)

digit_is_byte : (d : ℕ) → d < 16 → IsFieldByte (hex_digit d)
digit_is_byte d h = record { no_blank = grind (arith, nat_tests); no_feed = grind (arith, nat_tests) }

pub list_all_push : {X : Type 0} (p : X → Bool) (xs : List X) (x : X) → list_all p xs ≡ true → p x ≡ true → list_all p (xs ++ x ∷ []) ≡ true
list_all_push p [] x h k = ap (λ b. b && true) k
list_all_push p (y ∷ ys) x h k = grind (arith, list_all_push p ys x)

bytes_push : (xs : List ℕ) (x : ℕ) → AllByRecursion IsFieldByte xs → IsFieldByte x → AllByRecursion IsFieldByte (xs ++ x ∷ [])
bytes_push [] x h k = (k, tt)
bytes_push (y ∷ ys) x h k = (h.0, bytes_push ys x h.1 k)

low : (n : ℕ) → n % 16 < 16
low n = omega arith

length-hexadecimal : (count n : ℕ) → length (hexadecimal count n) ≡ count
length-hexadecimal zero n = refl
length-hexadecimal (suc count) n =
    omega (arith, length-append (hexadecimal count (n / 16)) (hex_digit (n % 16) ∷ []), length-hexadecimal count (n / 16))

all_hexadecimal : (count n : ℕ) → list_all is_ascii_hexdigit (hexadecimal count n) ≡ true
all_hexadecimal zero n = refl
all_hexadecimal (suc count) n =
    list_all_push is_ascii_hexdigit (hexadecimal count (n / 16)) (hex_digit (n % 16)) (all_hexadecimal count (n / 16))
    (digit_is_hex (n % 16) (low n))

value_is : (count n : ℕ) → n < 16 ^ count → digits_value 16 (hexadecimal count n) ≡ n
value_is zero n h = omega arith
value_is (suc count) n h =
    let below : n / 16 < 16 ^ count = omega arith in
    omega (
      arith,
      digits_value_push 16 (hexadecimal count (n / 16)) (hex_digit (n % 16)),
      value_is count
          (n / 16) below,
      digit_value-hex_digit (n % 16) (low n),
    )

-- the digits of a number that has no more of them write the number
pub hexadecimal_is : (count n : ℕ) → n < 16 ^ count → IsHexadecimal count (hexadecimal count n) n
hexadecimal_is count n h = record {
  digits =
      ap (λ b. b && list_all is_ascii_hexdigit (hexadecimal count n)) (eq-eqb _ _ (length-hexadecimal count n)) ∙ all_hexadecimal count n;
  value = value_is count n h;
}

field_bytes : (count n : ℕ) → AllByRecursion IsFieldByte (hexadecimal count n)
field_bytes zero n = tt
field_bytes (suc count) n =
    bytes_push (hexadecimal count (n / 16)) (hex_digit (n % 16)) (field_bytes count (n / 16)) (digit_is_byte (n % 16) (low n))

-- digits, where there are some, are a field
pub hexadecimal_field : (count n : ℕ) → 0 < count → IsField (hexadecimal count n)
hexadecimal_field count n h = record { some = omega (arith, length-hexadecimal count n); bytes = field_bytes count n }

-- a digit in capitals has a value below 16, and is the digit of that value
pub digit_value-lt : (byte : ℕ) → is_capital_digit byte ≡ true → digit_value byte < 16
digit_value-lt byte h = grind (arith, nat_tests)

pub hex_digit-digit_value : (byte : ℕ) → is_capital_digit byte ≡ true → hex_digit (digit_value byte) ≡ byte
hex_digit-digit_value byte h = grind (arith, nat_tests)

-- the digits that are written are in capitals
pub is_capital_digit-hex_digit : (n : ℕ) → n < 16 → is_capital_digit (hex_digit n) ≡ true
is_capital_digit-hex_digit n h = grind (arith, nat_tests)
