-- The words of a verdict stand in a JSON string as they are.
use Rattle.std.proofs.Common.{arith, ◌≡◌, ◌≢◌, ℕ, suc, ◌<◌, ◌≤◌, ◌^◌, true, nat_le, List, [], ◌∷◌, ◌++◌}
use Rattle.std.proofs.Common.{refl, ap, ◌∙◌, append_assoc}
use Rattle.std.specs.Prelude.{ℤ, pos, negsuc, decimal}
use lib.Signed.{mag}
use Rattle.std.specs.Fmt.{signed_decimal}
use Rattle.std.specs.Str.Parse.{AllDigits}
use Rattle.std.proofs.lemmas.Bool.{and_parts, ne_eqb, and_from}
use Rattle.std.proofs.lemmas.Bool.Decides.{nat_tests}
use Rattle.std.proofs.lemmas.Fmt.{decimal_is_IsNumeral}
use Rattle.std.proofs.lemmas.List.Folds.{list_all-append}
use Rattle.std.proofs.lemmas.Str.Parse.{digit_from_value}
use Rattle.json.specs.Print.{escape_letter, escape_byte, escape}
use Rattle.bus_table.specs.declared.mode.Mode.{Mode}
use Rattle.bus_table.specs.declared.mode.Mode.TheVariants.{Aperiodic, Periodic}
use Rattle.bus_table.specs.Text.{mode_word}
use Rattle.bus_tool.specs.inside.Escapes.{is_plain, are_plain}

-- ---- escapes
letterless : (x : ℕ) → 32 ≤ x → x ≢ 34 → x ≢ 92 → escape_letter x ≡ 0
letterless x least quote slash =
    rw (ne_eqb x 34 quote) (rw (ne_eqb x 92 slash) (rw (ne_eqb x 8 (λ e. absurd (omega (arith, e)))) (rw (ne_eqb x 12 (λ e. absurd (omega (arith, e))))
    (rw (ne_eqb x 10 (λ e. absurd (omega (arith, e)))) (rw (ne_eqb x 13 (λ e. absurd (omega (arith, e)))) (rw (ne_eqb x 9 (λ e. absurd (omega (arith, e)))) refl))))))

byte_stays : (x : ℕ) → is_plain x ≡ true → escape_byte x ≡ x ∷ []
unfolding escape_byte
byte_stays x h =
    let least : 32 ≤ x = grind (arith, nat_tests, h) in
    let quote : x ≢ 34 = λ e. grind (arith, nat_tests, h) in
    let slash : x ≢ 92 = λ e. grind (arith, nat_tests, h) in
    let above : nat_le 32 x ≡ true = grind (arith, nat_tests) in
    rw (letterless x least quote slash) (grind (arith, nat_tests))

-- plain bytes stay as they are
pub stays : (xs : List ℕ) → are_plain xs ≡ true → escape xs ≡ xs
stays [] h = refl
stays (x ∷ xs) h =
    let p = and_parts (is_plain x) (are_plain xs) h in
    ap (λ t. t ++ escape xs) (byte_stays x p.0) ∙ ap (λ t. x ∷ t) (stays xs p.1)

-- ---- plain texts
pub plain_append : (xs ys : List ℕ) → are_plain xs ≡ true → are_plain ys ≡ true → are_plain (xs ++ ys) ≡ true
plain_append xs ys h k = list_all-append is_plain xs ys ∙ and_from _ _ h k

digit_plain : (d : ℕ) → 48 ≤ d → d ≤ 57 → is_plain d ≡ true
digit_plain d h k = grind (arith, nat_tests)

digits_plain : (ds : List ℕ) → AllDigits 10 ds → are_plain ds ≡ true
digits_plain [] h = refl
digits_plain (d ∷ ds) h = let r = digit_from_value d h.0 in and_from _ _ (digit_plain d r.0 r.1) (digits_plain ds h.1)

pub decimal_plain : (n : ℕ) → n < 2 ^ 64 → are_plain (decimal n) ≡ true
decimal_plain n small = digits_plain (decimal n) (decimal_is_IsNumeral n small).0.1

pub signed_plain : (z : ℤ) → mag z < 2 ^ 63 → are_plain (signed_decimal z) ≡ true
signed_plain (pos n) small = decimal_plain n (omega arith)
signed_plain (negsuc n) small = decimal_plain (suc n) (omega arith)

-- a name, and numbers behind spaces
pub two_plain : (name first second : List ℕ) → are_plain name ≡ true → are_plain first ≡ true → are_plain second ≡ true
    → are_plain (name ++ first ++ 32 ∷ [] ++ second) ≡ true
two_plain name first second a b c =
    plain_append ((name ++ first) ++ 32 ∷ []) second (plain_append (name ++ first) (32 ∷ []) (plain_append name first a b) refl) c

pub three_plain : (name first second third : List ℕ) → are_plain name ≡ true → are_plain first ≡ true → are_plain second ≡ true
    → are_plain third ≡ true → are_plain (name ++ first ++ 32 ∷ [] ++ second ++ 32 ∷ [] ++ third) ≡ true
three_plain name first second third a b c d =
    plain_append (((name ++ first) ++ 32 ∷ []) ++ second ++ 32 ∷ []) third
    (plain_append (((name ++ first) ++ 32 ∷ []) ++ second) (32 ∷ []) (two_plain name first second a b c) refl) d

pub mode_plain : (mode : Mode) → are_plain (mode_word mode) ≡ true
mode_plain Aperiodic = refl
mode_plain Periodic = refl

-- ---- as they are printed
pub two_printed : (name a b : List ℕ) → name ++ (a ++ 32 ∷ b) ≡ name ++ a ++ 32 ∷ [] ++ b
two_printed name a b = simp append_assoc

pub three_printed : (name a b c : List ℕ) → name ++ (a ++ 32 ∷ (b ++ 32 ∷ c)) ≡ name ++ a ++ 32 ∷ [] ++ b ++ 32 ∷ [] ++ c
three_printed name a b c = simp append_assoc
