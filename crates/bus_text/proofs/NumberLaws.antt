-- Laws of numbers in fields.
use Rattle.std.proofs.Common.{arith, ◌==◌, zero, suc, ◌≡◌, ℕ, ◌<◌, ◌≤◌, ◌^◌, min, nat_le, ◌⊎◌, inl, inr, true, false, not, ◌&&◌, List}
use Rattle.std.proofs.Common.{[], ◌∷◌, length, get_or, lit<, refl, sym, ap, subst, ◌∙◌}
use Rattle.std.specs.Char.{is_ascii_digit, is_ascii_hexdigit, digit_value}
use Rattle.std.specs.Fmt.{decimal}
use Rattle.std.specs.Int.{is_in_range}
use Rattle.std.specs.List.{list_all, AllByRecursion}
use Rattle.std.specs.Str.Parse.{AllDigits, digits_value}
use Rattle.std.proofs.lemmas.Bool.{and_parts, cases_lt, ne_eqb, eqb-true, lt-leb, and_right}
use Rattle.std.proofs.lemmas.Bool.Decides.{nat_tests}
use Rattle.std.proofs.lemmas.Int.Digits.{digits_value-lt}
use Rattle.std.proofs.lemmas.Fmt.{decimal_is_IsNumeral, decimal_digit, first_decimal}
use Rattle.std.proofs.lemmas.Str.Parse.{digit_from_value}
use Rattle.bus_text.specs.inside.Spelled.{IsFieldByte, IsField}
use Rattle.bus_text.specs.Numbers.{is_plain_decimal, is_hexadecimal, hexadecimal_value, IsDecimal}

-- ---- ranges
outside : (lo hi v : ℕ) → hi < v → is_in_range lo hi v ≡ false
outside lo hi v h = ap (λ b. nat_le lo v && b) (lt-leb v hi h) ∙ and_right (nat_le lo v) false refl

-- a number that stops above a range is in it exactly where the number itself is
pub is_in_range-min : (lo hi v stop : ℕ) → hi < stop → is_in_range lo hi (min v stop) ≡ is_in_range lo hi v
is_in_range-min lo hi v stop h = by_order (cases_lt stop v) where
  by_order : (stop < v) ⊎ (v ≤ stop) → is_in_range lo hi (min v stop) ≡ is_in_range lo hi v
  by_order (inr le) = let e : min v stop ≡ v = omega arith in ap (λ n. is_in_range lo hi n) e
  by_order (inl lt) = outside lo hi (min v stop) (omega arith) ∙ sym (outside lo hi v (omega arith))

-- ---- decimals
field_digit : (b : ℕ) → is_ascii_digit b ≡ true → IsFieldByte b
field_digit b h = record { no_blank = grind (arith, nat_tests); no_feed = grind (arith, nat_tests) }

pub field_digits : (ds : List ℕ) → list_all is_ascii_digit ds ≡ true → AllByRecursion IsFieldByte ds
field_digits [] h = tt
field_digits (d ∷ ds) h = let p = and_parts (is_ascii_digit d) _ h in (field_digit d p.0, field_digits ds p.1)

ascii : (c : ℕ) → 48 ≤ c → c ≤ 57 → is_ascii_digit c ≡ true
ascii c h k = grind (arith, nat_tests)

ascii_digits : (ds : List ℕ) → AllDigits 10 ds → list_all is_ascii_digit ds ≡ true
ascii_digits [] h = refl
ascii_digits (d ∷ ds) h =
    let r = digit_from_value d h.0 in ap (λ b. b && list_all is_ascii_digit ds) (ascii d r.0 r.1) ∙ ascii_digits ds h.1

plain_is : (ds : List ℕ) → 0 < length ds → list_all is_ascii_digit ds ≡ true → (get_or ds 0 0 ≡ 48 → length ds ≡ 1)
    → is_plain_decimal ds ≡ true
plain_is [] some h k = absurd (omega arith)
plain_is (d ∷ []) some h k = (and_parts (is_ascii_digit d) true h).0
plain_is (d ∷ e ∷ ds) some h k =
    ap (λ t. not t && list_all is_ascii_digit (d ∷ e ∷ ds)) (ne_eqb d 48 (λ q. absurd (omega (arith, k q)))) ∙ h

one_zero : (n : ℕ) → n < 2 ^ 64 → get_or (decimal n) 0 0 ≡ 48 → length (decimal n) ≡ 1
one_zero zero small e = ap length (decimal_digit 0 (lit< tt))
one_zero (suc n) small e = absurd (omega (arith, first_decimal (suc n) (omega arith) small, e))

-- the decimal digits of a number are a plain decimal of it
pub decimal_is : (n : ℕ) → n < 2 ^ 64 → IsDecimal (decimal n) n
decimal_is n small =
    let d = decimal_is_IsNumeral n small in
    record { plain = plain_is (decimal n) d.0.0 (ascii_digits (decimal n) d.0.1) (one_zero n small); value = d.1 }

-- and a field
pub decimal_field : (n : ℕ) → n < 2 ^ 64 → IsField (decimal n)
decimal_field n small =
    let d = decimal_is_IsNumeral n small in
    record { some = d.0.0; bytes = field_digits (decimal n) (ascii_digits (decimal n) d.0.1) }

-- ---- hexadecimal digits
-- a hexadecimal digit has a value below 16
pub hex_value-lt : (c : ℕ) → is_ascii_hexdigit c ≡ true → digit_value c < 16
hex_value-lt c h = grind (arith, nat_tests)

-- hexadecimal digits have values below 16
pub hex_values-lt : (field : List ℕ) → list_all is_ascii_hexdigit field ≡ true → AllDigits 16 field
hex_values-lt [] h = tt
hex_values-lt (c ∷ cs) h =
    let p = and_parts (is_ascii_hexdigit c) (list_all is_ascii_hexdigit cs) h in (hex_value-lt c p.0, hex_values-lt cs p.1)

-- so many digits write a number below that power of 16
pub hexadecimal_value-lt : (count : ℕ) (field : List ℕ) → is_hexadecimal count field ≡ true → hexadecimal_value field < 16 ^ count
hexadecimal_value-lt count field h =
    let p = and_parts (length field == count) (list_all is_ascii_hexdigit field) h in
    let e : length field ≡ count = eqb-true _ _ p.0 in
    subst (λ (n : ℕ). digits_value 16 field < 16 ^ n) e (digits_value-lt 16 field (hex_values-lt field p.1))
