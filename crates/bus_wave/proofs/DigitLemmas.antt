-- The digits of a W line, as the code reads and writes them, are its half bits.
use Rattle.std.proofs.Common.{arith, ◌≡◌, ℕ, zero, suc, ◌+◌, ◌-◌, ◌*◌, ◌/◌, ◌%◌, ◌<◌, ◌≤◌, ◌^◌, Bool, true, false, not, cond, ◌&&◌, ◌==◌, List, [], ◌∷◌, ◌++◌}
use Rattle.std.proofs.Common.{get_or, length, drop, fold, Option, Some, None, refl, sym, ap, ◌∙◌, append_assoc}
use Rattle.std.specs.Char.{digit_value}
use Rattle.std.specs.Prelude.{IfSome}
use Rattle.std.specs.List.{flat_map, list_all}
use Rattle.std.specs.Option.{option_map, option_and_then}
use Rattle.std.proofs.lemmas.Bool.{and_parts, eqb-true}
use Rattle.std.proofs.lemmas.Grind.{flat_map-append}
use Rattle.std.proofs.Math.Nat.{div-div-eq-div-mul, pow-le-pow_right}
use Rattle.std.proofs.lemmas.Bool.Decides.{nat_tests}
use Rattle.bus_text.specs.Digits.{hex_digit, is_capital_digit}
use Rattle.bus_text.proofs.DigitLaws.{digit_value-lt}
use Rattle.bus_words.specs.declared.word.Kind.{Kind}
use Rattle.bus_words.specs.declared.word.Kind.TheVariants.{Label, Plain}
use Rattle.bus_words.specs.declared.word.FramedWord.{FramedWord}
use Rattle.bus_wave.specs.Code.{sync, pair, bits_of, frame_bits, frame_halves, number_of_bits, digits_of, halves_of, bits_in, frame_from, frame_of}
use Rattle.bus_wave.specs.Symbols.{are_digits}
use Rattle.bus_wave.specs.inside.Digits.{two_bits, gathered, head_of, frame_with, code_digit, code_digits, first_digit, second_digit}
use Rattle.bus_wave.proofs.CodeLemmas.{bit_value, odd_bit, length-bits_of, length-pairs}

-- ---- sixteen cases
each_digit : (P : ℕ → Type 0) → P 0 → P 1 → P 2 → P 3 → P 4 → P 5 → P 6 → P 7 → P 8 → P 9 → P 10 → P 11 → P 12 → P 13 → P 14 → P 15 → (v : ℕ) → v < 16 → P v
each_digit P p0 p1 p2 p3 p4 p5 p6 p7 p8 p9 p10 p11 p12 p13 p14 p15 zero h = p0
each_digit P p0 p1 p2 p3 p4 p5 p6 p7 p8 p9 p10 p11 p12 p13 p14 p15 (suc (zero)) h = p1
each_digit P p0 p1 p2 p3 p4 p5 p6 p7 p8 p9 p10 p11 p12 p13 p14 p15 (suc (suc (zero))) h = p2
each_digit P p0 p1 p2 p3 p4 p5 p6 p7 p8 p9 p10 p11 p12 p13 p14 p15 (suc (suc (suc (zero)))) h = p3
each_digit P p0 p1 p2 p3 p4 p5 p6 p7 p8 p9 p10 p11 p12 p13 p14 p15 (suc (suc (suc (suc (zero))))) h = p4
each_digit P p0 p1 p2 p3 p4 p5 p6 p7 p8 p9 p10 p11 p12 p13 p14 p15 (suc (suc (suc (suc (suc (zero)))))) h = p5
each_digit P p0 p1 p2 p3 p4 p5 p6 p7 p8 p9 p10 p11 p12 p13 p14 p15 (suc (suc (suc (suc (suc (suc (zero))))))) h = p6
each_digit P p0 p1 p2 p3 p4 p5 p6 p7 p8 p9 p10 p11 p12 p13 p14 p15 (suc (suc (suc (suc (suc (suc (suc (zero)))))))) h = p7
each_digit P p0 p1 p2 p3 p4 p5 p6 p7 p8 p9 p10 p11 p12 p13 p14 p15 (suc (suc (suc (suc (suc (suc (suc (suc (zero))))))))) h = p8
each_digit P p0 p1 p2 p3 p4 p5 p6 p7 p8 p9 p10 p11 p12 p13 p14 p15 (suc (suc (suc (suc (suc (suc (suc (suc (suc (zero)))))))))) h = p9
each_digit P p0 p1 p2 p3 p4 p5 p6 p7 p8 p9 p10 p11 p12 p13 p14 p15 (suc (suc (suc (suc (suc (suc (suc (suc (suc (suc (zero))))))))))) h = p10
each_digit P p0 p1 p2 p3 p4 p5 p6 p7 p8 p9 p10 p11 p12 p13 p14 p15 (suc (suc (suc (suc (suc (suc (suc (suc (suc (suc (suc (zero)))))))))))) h = p11
each_digit P p0 p1 p2 p3 p4 p5 p6 p7 p8 p9 p10 p11 p12 p13 p14 p15 (suc (suc (suc (suc (suc (suc (suc (suc (suc (suc (suc (suc (zero))))))))))))) h = p12
each_digit P p0 p1 p2 p3 p4 p5 p6 p7 p8 p9 p10 p11 p12 p13 p14 p15 (suc (suc (suc (suc (suc (suc (suc (suc (suc (suc (suc (suc (suc (zero)))))))))))))) h = p13
each_digit P p0 p1 p2 p3 p4 p5 p6 p7 p8 p9 p10 p11 p12 p13 p14 p15 (suc (suc (suc (suc (suc (suc (suc (suc (suc (suc (suc (suc (suc (suc (zero))))))))))))))) h = p14
each_digit P p0 p1 p2 p3 p4 p5 p6 p7 p8 p9 p10 p11 p12 p13 p14 p15 (suc (suc (suc (suc (suc (suc (suc (suc (suc (suc (suc (suc (suc (suc (suc (zero)))))))))))))))) h = p15
each_digit P p0 p1 p2 p3 p4 p5 p6 p7 p8 p9 p10 p11 p12 p13 p14 p15 (suc (suc (suc (suc (suc (suc (suc (suc (suc (suc (suc (suc (suc (suc (suc (suc (n))))))))))))))))) h = absurd (omega (arith, h))

-- ---- two bits of a digit
fused : {A B C : Type 0} (f : B → C) (g : A → B) (o : Option A) → option_map f (option_map g o) ≡ option_map (λ x. f (g x)) o
fused f g None = refl
fused f g (Some x) = refl

abbrev with_two : Option ℕ → Option (List Bool) → Option (List Bool)
with_two None bits = None
with_two (Some two) bits = option_map (λ bs. (two / 2 == 1) ∷ (two % 2 == 1) ∷ bs) bits

-- by the digit's value
abbrev two_of : ℕ → Option ℕ
two_of v = cond (v == 5) (Some 0) (cond (v == 6) (Some 1) (cond (v == 9) (Some 2) (cond (v == 10) (Some 3) None)))

two_heard : (rest : List Bool) (v : ℕ) → v < 16 → bits_in (bits_of 4 v ++ rest) ≡ with_two (two_of v) (bits_in rest)
two_heard rest v h =
    each_digit (λ n. bits_in (bits_of 4 n ++ rest) ≡ with_two (two_of n) (bits_in rest))
    refl refl refl refl refl (fused (λ bs. false ∷ bs) (λ bs. false ∷ bs) (bits_in rest)) (fused (λ bs. false ∷ bs) (λ bs. true ∷ bs) (bits_in rest)) refl refl (fused (λ bs. true ∷ bs) (λ bs. false ∷ bs) (bits_in rest)) (fused (λ bs. true ∷ bs) (λ bs. true ∷ bs) (bits_in rest)) refl refl refl refl refl v h

five_digit : (byte : ℕ) → is_capital_digit byte ≡ true → (byte == 53) ≡ (digit_value byte == 5)
five_digit byte h = grind (arith, nat_tests)

six_digit : (byte : ℕ) → is_capital_digit byte ≡ true → (byte == 54) ≡ (digit_value byte == 6)
six_digit byte h = grind (arith, nat_tests)

nine_digit : (byte : ℕ) → is_capital_digit byte ≡ true → (byte == 57) ≡ (digit_value byte == 9)
nine_digit byte h = grind (arith, nat_tests)

a_digit : (byte : ℕ) → is_capital_digit byte ≡ true → (byte == 65) ≡ (digit_value byte == 10)
a_digit byte h = grind (arith, nat_tests)

two_is : (byte : ℕ) → is_capital_digit byte ≡ true → two_bits byte ≡ two_of (digit_value byte)
two_is byte h = rw (five_digit byte h, six_digit byte h, nine_digit byte h, a_digit byte h) refl

two_below : (v : ℕ) → IfSome (two_of v) (λ two. two < 4)
two_below v =
    elim (v == 5) as (λ a. IfSome (cond a (Some 0) (cond (v == 6) (Some 1) (cond (v == 9) (Some 2) (cond (v == 10) (Some 3) None)))) (λ two. two < 4)) [
      | true ↦ omega arith
      | false ↦ elim (v == 6) as (λ a. IfSome (cond a (Some 1) (cond (v == 9) (Some 2) (cond (v == 10) (Some 3) None))) (λ two. two < 4)) [
        | true ↦ omega arith
        | false ↦ elim (v == 9) as (λ a. IfSome (cond a (Some 2) (cond (v == 10) (Some 3) None)) (λ two. two < 4)) [
          | true ↦ omega arith
          | false ↦ elim (v == 10) as (λ a. IfSome (cond a (Some 3) None) (λ two. two < 4)) [ true ↦ omega arith | false ↦ tt ]
        ]
      ]
    ]

-- ---- the digits behind the first two
abbrev number_onto : ℕ → List Bool → ℕ
number_onto n bits = fold (λ m bit. 2 * m + bit_value bit) n bits

two_onto : (n two : ℕ) → two < 4 → 2 * (2 * n + bit_value (two / 2 == 1)) + bit_value (two % 2 == 1) ≡ 4 * n + two
two_onto n zero h = omega arith
two_onto n (suc zero) h = omega arith
two_onto n (suc (suc zero)) h = omega arith
two_onto n (suc (suc (suc zero))) h = omega arith
two_onto n (suc (suc (suc (suc m)))) h = absurd (omega (arith, h))

pub gathered_is : (n : ℕ) (digits : List ℕ) → list_all is_capital_digit digits ≡ true
    → gathered n digits ≡ option_map (number_onto n) (bits_in (halves_of digits))
gathered_is n [] h = refl
gathered_is n (digit ∷ digits) h =
    let p = and_parts (is_capital_digit digit) (list_all is_capital_digit digits) h in
    let v : ℕ = digit_value digit in
    ap (option_and_then (λ two. gathered (4 * n + two) digits)) (two_is digit p.0)
    ∙ by_two (two_of v) (two_below v) (λ m. gathered_is m digits p.1)
    ∙ ap (option_map (number_onto n)) (sym (two_heard (halves_of digits) v (digit_value-lt digit p.0)))
  where
    by_bits : (two : ℕ) → two < 4 → (bits : Option (List Bool))
        → option_map (number_onto (4 * n + two)) bits ≡ option_map (number_onto n) (option_map (λ bs. (two / 2 == 1) ∷ (two % 2 == 1) ∷ bs) bits)
    by_bits two low None = refl
    by_bits two low (Some bits) = ap (λ m. Some (number_onto m bits)) (sym (two_onto n two low))

    by_two : (o : Option ℕ) → IfSome o (λ two. two < 4)
        → ((m : ℕ) → gathered m digits ≡ option_map (number_onto m) (bits_in (halves_of digits)))
        → option_and_then (λ two. gathered (4 * n + two) digits) o ≡ option_map (number_onto n) (with_two o (bits_in (halves_of digits)))
    by_two None low again = refl
    by_two (Some two) low again = again (4 * n + two) ∙ by_bits two low (bits_in (halves_of digits))

-- ---- the first two digits
abbrev head_value : ℕ → ℕ → Option (Kind × ℕ)
head_value first second =
    cond (first == 14 && second == 1) (Some (Label, 0))
    (cond (first == 14 && second == 2) (Some (Label, 1))
    (cond (first == 1 && second == 13) (Some (Plain, 0)) (cond (first == 1 && second == 14) (Some (Plain, 1)) None)))

abbrev head_frame : List Bool → Option (Kind × ℕ) → Option FramedWord
head_frame rest None = None
head_frame rest (Some head) = option_map (λ bits. frame_from head.0 ((head.1 == 1) ∷ bits)) (bits_in rest)

head_heard : (rest : List Bool) (a : ℕ) → a < 16 → (b : ℕ) → b < 16
    → frame_of (bits_of 4 a ++ (bits_of 4 b ++ rest)) ≡ head_frame rest (head_value a b)
unfolding frame_of
head_heard rest a h =
    each_digit (λ n. (b : ℕ) → b < 16 → frame_of (bits_of 4 n ++ (bits_of 4 b ++ rest)) ≡ head_frame rest (head_value n b))
    (λ b k. refl)
    (λ b k. each_digit (λ m. frame_of (bits_of 4 1 ++ (bits_of 4 m ++ rest)) ≡ head_frame rest (head_value 1 m)) refl refl refl refl refl refl refl refl refl refl refl refl refl (fused (frame_from Plain) (λ bs. false ∷ bs) (bits_in rest)) (fused (frame_from Plain) (λ bs. true ∷ bs) (bits_in rest)) refl b k)
    (λ b k. refl)
    (λ b k. refl)
    (λ b k. refl)
    (λ b k. refl)
    (λ b k. refl)
    (λ b k. refl)
    (λ b k. refl)
    (λ b k. refl)
    (λ b k. refl)
    (λ b k. refl)
    (λ b k. refl)
    (λ b k. refl)
    (λ b k. each_digit (λ m. frame_of (bits_of 4 14 ++ (bits_of 4 m ++ rest)) ≡ head_frame rest (head_value 14 m)) refl (fused (frame_from Label) (λ bs. false ∷ bs) (bits_in rest)) (fused (frame_from Label) (λ bs. true ∷ bs) (bits_in rest)) refl refl refl refl refl refl refl refl refl refl refl refl refl b k)
    (λ b k. refl)
    a h

-- a digit by its value
first_label : (byte : ℕ) → is_capital_digit byte ≡ true → (byte == 69) ≡ (digit_value byte == 14)
first_label byte h = grind (arith, nat_tests)

one_digit : (byte : ℕ) → is_capital_digit byte ≡ true → (byte == 49) ≡ (digit_value byte == 1)
one_digit byte h = grind (arith, nat_tests)

two_digit : (byte : ℕ) → is_capital_digit byte ≡ true → (byte == 50) ≡ (digit_value byte == 2)
two_digit byte h = grind (arith, nat_tests)

d_digit : (byte : ℕ) → is_capital_digit byte ≡ true → (byte == 68) ≡ (digit_value byte == 13)
d_digit byte h = grind (arith, nat_tests)

head_is : (a b : ℕ) → is_capital_digit a ≡ true → is_capital_digit b ≡ true → head_of a b ≡ head_value (digit_value a) (digit_value b)
head_is a b h k = rw (first_label a h, one_digit b k, two_digit b k, one_digit a h, d_digit b k, first_label b k) refl

-- ten digits, by the first two and by the others
abbrev pub taken : List ℕ → Option (Kind × ℕ) → Option FramedWord
taken digits head = option_and_then (λ h. option_map (frame_with h.0) (gathered h.1 digits)) head

abbrev HasBit : Option (Kind × ℕ) → Type 0
HasBit None = Unit {0}
HasBit (Some head) = head.1 < 2

pub head_bit : (a b : ℕ) → HasBit (head_value a b)
head_bit a b = by_tests (a == 14 && b == 1) (a == 14 && b == 2) (a == 1 && b == 13) (a == 1 && b == 14) where
  by_tests : (s t u v : Bool) → HasBit (cond s (Some (Label, 0)) (cond t (Some (Label, 1)) (cond u (Some (Plain, 0)) (cond v (Some (Plain, 1)) None))))
  by_tests true t u v = omega arith
  by_tests false true u v = omega arith
  by_tests false false true v = omega arith
  by_tests false false false true = omega arith
  by_tests false false false false = tt

bit_again : (bit : ℕ) → bit < 2 → 2 * 0 + bit_value (bit == 1) ≡ bit
bit_again zero h = refl
bit_again (suc zero) h = refl
bit_again (suc (suc n)) h = absurd (omega (arith, h))

pub heard_by_head : (a b : ℕ) (digits : List ℕ) → is_capital_digit a ≡ true → is_capital_digit b ≡ true → list_all is_capital_digit digits ≡ true
    → frame_of (halves_of (a ∷ b ∷ digits)) ≡ taken digits (head_of a b)
heard_by_head a b digits h k all =
    head_heard (halves_of digits) (digit_value a) (digit_value-lt a h) (digit_value b) (digit_value-lt b k)
    ∙ by_head (head_value (digit_value a) (digit_value b)) (head_bit (digit_value a) (digit_value b))
    ∙ ap (taken digits) (sym (head_is a b h k))
  where
    by_bits : (kind : Kind) (bit : ℕ) → bit < 2 → (bits : Option (List Bool))
        → option_map (λ bs. frame_from kind ((bit == 1) ∷ bs)) bits ≡ option_map (frame_with kind) (option_map (number_onto bit) bits)
    by_bits kind bit low None = refl
    by_bits kind bit low (Some bits) = ap (λ n. Some (frame_with kind (number_onto n bits))) (bit_again bit low)

    by_head : (head : Option (Kind × ℕ)) → HasBit head → head_frame (halves_of digits) head ≡ taken digits head
    by_head None low = refl
    by_head (Some head) low =
        by_bits head.0 head.1 low (bits_in (halves_of digits)) ∙ ap (option_map (frame_with head.0)) (sym (gathered_is head.1 digits all))

-- ---- what is written
code_two : (x y : Bool) → hex_digit (number_of_bits (x ∷ not x ∷ y ∷ not y ∷ [])) ≡ code_digit (2 * bit_value x + bit_value y)
code_two true true = refl
code_two true false = refl
code_two false true = refl
code_two false false = refl

digits_push : (n : ℕ) (halves : List Bool) (a b c d : Bool) → length halves ≡ 4 * n
    → digits_of (halves ++ a ∷ b ∷ c ∷ d ∷ []) ≡ digits_of halves ++ hex_digit (number_of_bits (a ∷ b ∷ c ∷ d ∷ [])) ∷ []
digits_push n [] a b c d h = refl
digits_push n (p ∷ []) a b c d h = absurd (omega (arith, h))
digits_push n (p ∷ q ∷ []) a b c d h = absurd (omega (arith, h))
digits_push n (p ∷ q ∷ r ∷ []) a b c d h = absurd (omega (arith, h))
digits_push n (p ∷ q ∷ r ∷ s ∷ rest) a b c d h =
    ap (λ ds. hex_digit (number_of_bits (p ∷ q ∷ r ∷ s ∷ [])) ∷ ds) (digits_push (n - 1) rest a b c d (omega (arith, h)))

low_two : (n : ℕ) → 2 * bit_value (n / 2 % 2 == 1) + bit_value (n % 2 == 1) ≡ n % 4
low_two n = omega (arith, odd_bit (n / 2), odd_bit n)

-- so many digits of a number are those of twice as many bits
by_fours : (count n : ℕ) → digits_of (flat_map pair (bits_of (2 * count) n)) ≡ code_digits count n
by_fours zero n = refl
by_fours (suc count) n =
    let twice : 2 * suc count ≡ suc (suc (2 * count)) = omega arith in
    let x : Bool = n / 2 % 2 == 1 in
    let y : Bool = n % 2 == 1 in
    let front : List Bool = bits_of (2 * count) (n / 2 / 2) in
    let four : n / 2 / 2 ≡ n / 4 = omega arith in
    ap (λ c. digits_of (flat_map pair (bits_of c n))) twice
    ∙ ap digits_of (flat_map-append pair (front ++ x ∷ []) (y ∷ []) ∙ ap (λ hs. hs ++ (y ∷ not y ∷ [])) (flat_map-append pair front (x ∷ [])) ∙ append_assoc (flat_map pair front) (x ∷ not x ∷ []) (y ∷ not y ∷ []))
    ∙ digits_push count (flat_map pair front) x (not x) y (not y) (omega (arith, length-pairs front, length-bits_of (2 * count) (n / 2 / 2)))
    ∙ ap (λ d. digits_of (flat_map pair front) ++ d ∷ []) (code_two x y ∙ ap code_digit (low_two n))
    ∙ ap (λ m. digits_of (flat_map pair (bits_of (2 * count) m)) ++ code_digit (n % 4) ∷ []) four
    ∙ ap (λ ds. ds ++ code_digit (n % 4) ∷ []) (by_fours count (n / 4))

highest : (count n : ℕ) → bits_of (suc count) n ≡ (n / 2 ^ count % 2 == 1) ∷ bits_of count n
highest zero n = let e : n ≡ n / 2 ^ 0 = omega arith in ap (λ m. (m % 2 == 1) ∷ []) e
highest (suc count) n =
    let e : n / 2 / 2 ^ count ≡ n / 2 ^ suc count = div-div-eq-div-mul n 2 (2 ^ count) ∙ ap (λ m. n / m) (let k : 2 * 2 ^ count ≡ 2 ^ suc count = omega arith in k) in
    ap (λ bs. bs ++ (n % 2 == 1) ∷ []) (highest count (n / 2)) ∙ ap (λ m. (m % 2 == 1) ∷ bits_of (suc count) n) e

frame_digits : (kind : Kind) (value : ℕ) (parity : Bool) (bits : ℕ) → value < 2 ^ 16 → bits ≡ 2 * value + bit_value parity
    → digits_of (frame_halves (record { kind = kind; value = value; parity = parity }))
    ≡ first_digit kind ∷ second_digit kind (bits / 65536) ∷ code_digits 8 bits
unfolding frame_halves
frame_digits kind value parity bits low e =
    let top : Bool = value / 2 ^ 15 % 2 == 1 in
    let half : bits / 2 ≡ value = elim parity as (λ p. bits ≡ 2 * value + bit_value p → bits / 2 ≡ value) [ true ↦ λ k. omega (arith, k) | false ↦ λ k. omega (arith, k) ] e in
    let odd : (bits % 2 == 1) ≡ parity = odd_is parity e in
    let rest : bits_of 15 value ++ parity ∷ [] ≡ bits_of 16 bits =
    ap (λ p. bits_of 15 value ++ p ∷ []) (sym odd) ∙ ap (λ v. bits_of 15 v ++ (bits % 2 == 1) ∷ []) (sym half) in
    let all : frame_bits (record { kind = kind; value = value; parity = parity }) ≡ top ∷ bits_of 16 bits =
    ap (λ bs. bs ++ parity ∷ []) (highest 15 value) ∙ ap (λ bs. top ∷ bs) rest in
    ap (λ bs. digits_of (sync kind ++ flat_map pair bs)) all
    ∙ by_kind kind top
    ∙ ap (λ ds. first_digit kind ∷ second_digit kind (bit_value top) ∷ ds) (by_fours 8 bits)
    ∙ ap (λ b. first_digit kind ∷ second_digit kind b ∷ code_digits 8 bits) (top_is value low ∙ (let k : value / 2 ^ 15 ≡ bits / 65536 = omega (arith, half) in k))
  where
    odd_is : (p : Bool) → bits ≡ 2 * value + bit_value p → (bits % 2 == 1) ≡ p
    odd_is true k = grind (arith, nat_tests)
    odd_is false k = grind (arith, nat_tests)

    top_is : (v : ℕ) → v < 2 ^ 16 → bit_value (v / 2 ^ 15 % 2 == 1) ≡ v / 2 ^ 15
    top_is v h = grind (arith, nat_tests)

    by_kind : (k : Kind) (top : Bool) → digits_of (sync k ++ (top ∷ not top ∷ flat_map pair (bits_of 16 bits)))
        ≡ first_digit k ∷ second_digit k (bit_value top) ∷ digits_of (flat_map pair (bits_of 16 bits))
    by_kind Label true = refl
    by_kind Label false = refl
    by_kind Plain true = refl
    by_kind Plain false = refl

-- the digits of a word
pub word_digits : (kind : Kind) (value : ℕ) (parity : Bool) (bits : ℕ) (digits : List ℕ) → value < 2 ^ 16 → bits ≡ 2 * value + bit_value parity
    → digits ≡ first_digit kind ∷ second_digit kind (bits / 65536) ∷ code_digits 8 bits
    → digits ≡ digits_of (frame_halves (record { kind = kind; value = value; parity = parity }))
word_digits kind value parity bits digits low e h = h ∙ sym (frame_digits kind value parity bits low e)

pub few_fours : (i : ℕ) → i ≤ 7 → 4 ^ i ≤ 16384
few_fours i h = let k : 4 ^ i ≤ 4 ^ 7 = pow-le-pow_right {n = 4} (omega arith) h in k

pub all_fours : (i : ℕ) → i ≤ 8 → 4 ^ i ≤ 65536
all_fours i h = let k : 4 ^ i ≤ 4 ^ 8 = pow-le-pow_right {n = 4} (omega arith) h in k

-- ten digits are heard by their first two and the others
pub ten_heard : (digits : List ℕ) → are_digits digits ≡ true
    → frame_of (halves_of digits) ≡ taken (drop 2 digits) (head_of (get_or digits 0 0) (get_or digits 1 0))
ten_heard [] h = absurd cc
ten_heard (a ∷ []) h = absurd cc
ten_heard (a ∷ b ∷ digits) h =
    let p = and_parts (length (a ∷ b ∷ digits) == 10) (list_all is_capital_digit (a ∷ b ∷ digits)) h in
    let q = and_parts (is_capital_digit a) (is_capital_digit b && list_all is_capital_digit digits) p.1 in
    let r = and_parts (is_capital_digit b) (list_all is_capital_digit digits) q.1 in
    heard_by_head a b digits q.0 r.0 r.1

-- the digits behind the first two
pub eight_more : (digits : List ℕ) → are_digits digits ≡ true → (length (drop 2 digits) ≤ 8) × (list_all is_capital_digit (drop 2 digits) ≡ true)
eight_more [] h = absurd cc
eight_more (a ∷ []) h = absurd cc
eight_more (a ∷ b ∷ digits) h =
    let p = and_parts (length (a ∷ b ∷ digits) == 10) (list_all is_capital_digit (a ∷ b ∷ digits)) h in
    let q = and_parts (is_capital_digit a) (is_capital_digit b && list_all is_capital_digit digits) p.1 in
    let r = and_parts (is_capital_digit b) (list_all is_capital_digit digits) q.1 in
    (omega (arith, eqb-true (length (a ∷ b ∷ digits)) 10 p.0), r.1)
