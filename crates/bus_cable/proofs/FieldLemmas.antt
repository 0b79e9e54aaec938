-- The fields of a line that names bit times.
use Rattle.std.proofs.Common.{arith, ◌≡◌, ◌≢◌, ℕ, ◌-◌, ◌+◌, ◌<◌, ◌≤◌, ◌^◌, min, Bool, true, false, not, cond, ◌&&◌, ◌==◌, List, [], ◌∷◌, length, Option, Some, None, Result, Ok, Err, refl, sym, ap, ◌∙◌, lit<, inl, inr, ◌⊎◌}
use Rattle.std.specs.Prelude.{nat_le}
use Rattle.std.specs.Int.{is_in_range as is_between}
use Rattle.std.proofs.lemmas.Bool.{eq-eqb, ne_eqb, and_parts, cases_lt, and_right}
use Rattle.std.proofs.lemmas.Bool.Decides.{nat_tests}
use Rattle.bus_text.specs.Numbers.{is_plain_decimal, decimal_value}
use Rattle.bus_text.specs.Refusals.{first_of, unless}
use Rattle.bus_text.specs.declared.reason.Reason.{Reason}
use Rattle.bus_text.specs.declared.reason.Reason.TheVariants.{Fields, Spelling, Range}
use Rattle.bus_text.proofs.NumberLaws.{is_in_range-min}
use Rattle.bus_strings.specs.Reading.{number_of}
use Rattle.bus_cable.specs.declared.cable.Named.{Named}
use Rattle.bus_cable.specs.Cables.{may_name, most_wake}
use Rattle.bus_cable.specs.Reading.{bits_field, named_of, named_reading}
use Rattle.bus_cable.specs.inside.Ahead.{HasThree}

-- the three tests of such a line, in order
abbrev pub staged : Bool → Bool → Bool → Named → Result Named Reason
staged a b c named = unless (first_of ((not a, Fields) ∷ (not b, Spelling) ∷ (not c, Range) ∷ [])) named

pub reads : (most last : ℕ) (fields : List (List ℕ)) (a b c : Bool) → (length fields == 3) ≡ a
    → (is_plain_decimal (number_of fields) && is_plain_decimal (bits_field fields)) ≡ b → may_name most last (named_of fields) ≡ c
    → named_reading most last fields ≡ staged a b c (named_of fields)
unfolding named_reading
reads most last fields a b c p q r =
    ap (λ x. staged x (is_plain_decimal (number_of fields) && is_plain_decimal (bits_field fields)) (may_name most last (named_of fields)) (named_of fields)) p
    ∙ ap (λ x. staged a x (may_name most last (named_of fields)) (named_of fields)) q ∙ ap (λ x. staged a b x (named_of fields)) r

pub other_count : (most last : ℕ) (fields : List (List ℕ)) → length fields ≢ 3 → named_reading most last fields ≡ Err Fields
other_count most last fields h = reads most last fields false _ _ (ne_eqb (length fields) 3 (λ e. absurd (h e))) refl refl

three : (fields : List (List ℕ)) → length fields ≡ 3 → (length fields == 3) ≡ true
three fields h = eq-eqb (length fields) 3 h

-- what `plain_decimal` answers
abbrev pub read_decimal : List ℕ → Option ℕ
read_decimal f = cond (is_plain_decimal f) (Some (min (decimal_value f) (2 ^ 64 - 1))) None

pub none_read : (f : List ℕ) → None ≡ read_decimal f → is_plain_decimal f ≡ false
none_read f h = by_test (is_plain_decimal f) (min (decimal_value f) (2 ^ 64 - 1)) h where
  by_test : (t : Bool) (m : ℕ) → None ≡ cond t (Some m) None → t ≡ false
  by_test true m h = absurd cc
  by_test false m h = refl

pub some_read : (f : List ℕ) (n : ℕ) → Some n ≡ read_decimal f → (is_plain_decimal f ≡ true) × (n ≡ min (decimal_value f) (2 ^ 64 - 1))
some_read f n h = by_test (is_plain_decimal f) (min (decimal_value f) (2 ^ 64 - 1)) h where
  by_test : (t : Bool) (m : ℕ) → Some n ≡ cond t (Some m) None → (t ≡ true) × (n ≡ m)
  by_test true m h = (refl, cc)
  by_test false m h = absurd cc

pub first_misspelled : (most last : ℕ) (fields : List (List ℕ)) (number bits : List ℕ) → HasThree fields number bits → is_plain_decimal number ≡ false
    → named_reading most last fields ≡ Err Spelling
first_misspelled most last fields number bits h e =
    reads most last fields true false _ (three fields h.count) (ap (λ b. b && is_plain_decimal (bits_field fields)) (ap is_plain_decimal (sym h.number_is) ∙ e)) refl

pub second_misspelled : (most last : ℕ) (fields : List (List ℕ)) (number bits : List ℕ) → HasThree fields number bits → is_plain_decimal bits ≡ false
    → named_reading most last fields ≡ Err Spelling
second_misspelled most last fields number bits h e =
    reads most last fields true false _ (three fields h.count) (and_right (is_plain_decimal (number_of fields)) _ (ap is_plain_decimal (sym h.bits_are) ∙ e)) refl

le_min : (v most : ℕ) → most ≤ most_wake → nat_le (min v (2 ^ 64 - 1)) most ≡ nat_le v most
le_min v most h = by_order (cases_lt (2 ^ 64 - 1) v) where
  above : (n : ℕ) → most < n → nat_le n most ≡ false
  above n lt = grind (arith, nat_tests)

  by_order : ((2 ^ 64 - 1) < v) ⊎ (v ≤ 2 ^ 64 - 1) → nat_le (min v (2 ^ 64 - 1)) most ≡ nat_le v most
  by_order (inr le) = let e : min v (2 ^ 64 - 1) ≡ v = omega arith in ap (λ n. nat_le n most) e
  by_order (inl lt) = above (min v (2 ^ 64 - 1)) (omega (arith, h)) ∙ sym (above v (omega (arith, h)))

-- the test of the numbers as the code has them is that of the line
same_test : (most last t b : ℕ) (fields : List (List ℕ)) → most ≤ most_wake → t ≡ min (decimal_value (number_of fields)) (2 ^ 64 - 1) → b ≡ min (decimal_value (bits_field fields)) (2 ^ 64 - 1)
    → may_name most last (named_of fields) ≡ may_name most last (record { terminal = t; bits = b })
same_test most last t b fields h p q =
    ap (λ x. x && nat_le (decimal_value (bits_field fields)) most) (sym (ap (is_between (last + 1) 128) p ∙ is_in_range-min (last + 1) 128 (decimal_value (number_of fields)) (2 ^ 64 - 1) (lit< tt)))
    ∙ ap (λ x. is_between (last + 1) 128 t && x) (sym (ap (λ n. nat_le n most) q ∙ le_min (decimal_value (bits_field fields)) most h))

pub named_is : (most last t b : ℕ) (fields : List (List ℕ)) (number bits : List ℕ) (ok : Bool) → most ≤ most_wake → HasThree fields number bits → Some t ≡ read_decimal number → Some b ≡ read_decimal bits
    → may_name most last (record { terminal = t; bits = b }) ≡ ok → named_reading most last fields ≡ cond ok (Ok (record { terminal = t; bits = b })) (Err Range)
named_is most last t b fields number bits ok h f p q e = by_test ok e where
  t_is : (is_plain_decimal (number_of fields) ≡ true) × (t ≡ min (decimal_value (number_of fields)) (2 ^ 64 - 1))
  t_is = some_read (number_of fields) t (p ∙ ap read_decimal f.number_is)

  b_is : (is_plain_decimal (bits_field fields) ≡ true) × (b ≡ min (decimal_value (bits_field fields)) (2 ^ 64 - 1))
  b_is = some_read (bits_field fields) b (q ∙ ap read_decimal f.bits_are)

  spelled : (is_plain_decimal (number_of fields) && is_plain_decimal (bits_field fields)) ≡ true
  spelled = ap (λ x. x && is_plain_decimal (bits_field fields)) t_is.0 ∙ b_is.0

  same : may_name most last (named_of fields) ≡ may_name most last (record { terminal = t; bits = b })
  same = same_test most last t b fields h t_is.1 b_is.1

  by_test : (ok : Bool) → may_name most last (record { terminal = t; bits = b }) ≡ ok → named_reading most last fields ≡ cond ok (Ok (record { terminal = t; bits = b })) (Err Range)
  by_test true e =
      let parts = and_parts (is_between (last + 1) 128 t) (nat_le b most) e in
      let low : t ≤ 128 = grind (arith, nat_tests, parts.0) in
      let few : b ≤ most = grind (arith, nat_tests, parts.1) in
      let t_value : decimal_value (number_of fields) ≡ t = omega (arith, t_is.1, low) in
      let b_value : decimal_value (bits_field fields) ≡ b = omega (arith, b_is.1, few, h) in
      reads most last fields true true true (three fields f.count) spelled (same ∙ e)
      ∙ ap (λ n. Ok (record { terminal = n; bits = decimal_value (bits_field fields) })) t_value ∙ ap (λ n. Ok (record { terminal = t; bits = n })) b_value
  by_test false e = reads most last fields true true false (three fields f.count) spelled (same ∙ e)
