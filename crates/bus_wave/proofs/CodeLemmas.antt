-- The half bits of a word are heard as that word, and no others are; half bits and digits stand for each other.
use Rattle.std.proofs.Common.{arith, ◌≡◌, ℕ, zero, suc, ◌+◌, ◌*◌, ◌/◌, ◌%◌, ◌<◌, ◌^◌, Bool, true, false, cond, ◌&&◌, ◌==◌, List, [], ◌∷◌, ◌++◌}
use Rattle.std.proofs.Common.{◌-◌, length, take, drop, Option, Some, None, refl, sym, ap, subst, ◌∙◌, append_assoc, append-nil, length-append}
use Rattle.std.specs.Char.{digit_value}
use Rattle.std.specs.List.{flat_map, list_all}
use Rattle.std.specs.Option.{option_map, option_and_then}
use Rattle.std.proofs.lemmas.Bool.{and_parts, eqb-true, eq-eqb}
use Rattle.std.proofs.lemmas.Bool.Decides.{nat_tests}
use Rattle.std.proofs.lemmas.List.{take-append-drop, length-drop}
use Rattle.std.proofs.lemmas.Grind.{fold-append}
use Rattle.bus_text.specs.Digits.{hex_digit, is_capital_digit}
use Rattle.bus_text.proofs.DigitLaws.{digit_value-hex_digit, digit_value-lt, hex_digit-digit_value, is_capital_digit-hex_digit}
use Rattle.bus_words.specs.declared.word.Kind.{Kind}
use Rattle.bus_words.specs.declared.word.Kind.TheVariants.{Label, Plain}
use Rattle.bus_words.specs.declared.word.FramedWord.{FramedWord}
use Rattle.bus_wave.specs.Code.{sync, pair, bits_of, frame_bits, frame_halves, number_of_bits, digits_of, digit_halves, halves_of}
use Rattle.bus_wave.specs.Code.{kind_of, bits_in, frame_from, frame_of}
use Rattle.bus_wave.specs.Symbols.{are_digits}

-- ---- bits and numbers
abbrev pub bit_value : Bool → ℕ
bit_value bit = cond bit 1 0

number_push : (bits : List Bool) (bit : Bool) → number_of_bits (bits ++ bit ∷ []) ≡ 2 * number_of_bits bits + bit_value bit
number_push bits bit = fold-append (λ n b. 2 * n + bit_value b) 0 bits (bit ∷ [])

pub odd_bit : (n : ℕ) → bit_value (n % 2 == 1) ≡ n % 2
odd_bit n = grind (arith, nat_tests)

number_is : (count n : ℕ) → n < 2 ^ count → number_of_bits (bits_of count n) ≡ n
number_is zero n h = omega arith
number_is (suc count) n h =
    let below : n / 2 < 2 ^ count = omega arith in
    omega (arith, number_push (bits_of count (n / 2)) (n % 2 == 1), number_is count (n / 2) below, odd_bit n)

-- what holds of no bits, and of one more, holds of all
by_push : (P : List Bool → Type 0) → P [] → ((bits : List Bool) (bit : Bool) → P bits → P (bits ++ bit ∷ [])) → (bits : List Bool) → P bits
by_push P none push bits = go [] bits none where
  go : (front rest : List Bool) → P front → P (front ++ rest)
  go front [] h = subst P (sym (append-nil front)) h
  go front (bit ∷ rest) h = subst P (append_assoc front (bit ∷ []) rest) (go (front ++ bit ∷ []) rest (push front bit h))

bit_odd : (n : ℕ) (bit : Bool) → ((2 * n + bit_value bit) % 2 == 1) ≡ bit
bit_odd n true = eq-eqb _ _ (omega arith)
bit_odd n false = grind (arith, nat_tests)

bit_half : (n : ℕ) (bit : Bool) → (2 * n + bit_value bit) / 2 ≡ n
bit_half n true = omega arith
bit_half n false = omega arith

bits_push : (bits : List Bool) (bit : Bool) → bits_of (length bits) (number_of_bits bits) ≡ bits
    → bits_of (length (bits ++ bit ∷ [])) (number_of_bits (bits ++ bit ∷ [])) ≡ bits ++ bit ∷ []
bits_push bits bit h =
    let count : length (bits ++ bit ∷ []) ≡ suc (length bits) = omega (arith, length-append bits (bit ∷ [])) in
    let n : ℕ = number_of_bits bits in
    ap (λ c. bits_of c (number_of_bits (bits ++ bit ∷ []))) count
    ∙ ap (bits_of (suc (length bits))) (number_push bits bit)
    ∙ ap (λ k. bits_of (length bits) k ++ ((2 * n + bit_value bit) % 2 == 1) ∷ []) (bit_half n bit)
    ∙ ap (λ b. bits_of (length bits) n ++ b ∷ []) (bit_odd n bit)
    ∙ ap (λ bs. bs ++ bit ∷ []) h

-- the number of bits has these bits
pub bits_are : (bits : List Bool) → bits_of (length bits) (number_of_bits bits) ≡ bits
bits_are bits = by_push (λ bs. bits_of (length bs) (number_of_bits bs) ≡ bs) refl bits_push bits

below_push : (bits : List Bool) (bit : Bool) → number_of_bits bits < 2 ^ length bits
    → number_of_bits (bits ++ bit ∷ []) < 2 ^ length (bits ++ bit ∷ [])
below_push bits bit h =
    let count : length (bits ++ bit ∷ []) ≡ suc (length bits) = omega (arith, length-append bits (bit ∷ [])) in
    let small : bit_value bit < 2 = elim bit as (λ b. bit_value b < 2) [ true ↦ omega arith | false ↦ omega arith ] in
    let low : 2 * number_of_bits bits + bit_value bit < 2 ^ suc (length bits) = omega arith in
    subst (λ c. number_of_bits (bits ++ bit ∷ []) < 2 ^ c) (sym count) (subst (λ n. n < 2 ^ suc (length bits)) (sym (number_push bits bit)) low)

pub number_below : (bits : List Bool) → number_of_bits bits < 2 ^ length bits
number_below bits = by_push (λ bs. number_of_bits bs < 2 ^ length bs) (omega arith) below_push bits

pub length-bits_of : (count n : ℕ) → length (bits_of count n) ≡ count
length-bits_of zero n = refl
length-bits_of (suc count) n =
    omega (arith, length-append (bits_of count (n / 2)) ((n % 2 == 1) ∷ []), length-bits_of count (n / 2))

-- ---- pairs
pairs_heard : (bits : List Bool) → bits_in (flat_map pair bits) ≡ Some bits
pairs_heard [] = refl
pairs_heard (true ∷ bits) = ap (option_map (λ bs. true ∷ bs)) (pairs_heard bits)
pairs_heard (false ∷ bits) = ap (option_map (λ bs. false ∷ bs)) (pairs_heard bits)

mapped : {A B : Type 0} (f : A → B) (o : Option A) (y : B) → option_map f o ≡ Some y → (x : A) × (o ≡ Some x) × (f x ≡ y)
mapped f None y h = absurd cc
mapped f (Some x) y h = (x, refl, cc)

pub pairs_are : (halves bits : List Bool) → bits_in halves ≡ Some bits → halves ≡ flat_map pair bits
pairs_are [] bits h = let none : List Bool = [] in let e : none ≡ bits = cc in ap (flat_map pair) e
pairs_are (one ∷ []) bits h = absurd cc
pairs_are (true ∷ true ∷ rest) bits h = absurd cc
pairs_are (false ∷ false ∷ rest) bits h = absurd cc
pairs_are (true ∷ false ∷ rest) bits h =
    let m = mapped (λ bs. true ∷ bs) (bits_in rest) bits h in
    ap (λ hs. true ∷ false ∷ hs) (pairs_are rest m.0 m.1) ∙ ap (flat_map pair) m.2
pairs_are (false ∷ true ∷ rest) bits h =
    let m = mapped (λ bs. false ∷ bs) (bits_in rest) bits h in
    ap (λ hs. false ∷ true ∷ hs) (pairs_are rest m.0 m.1) ∙ ap (flat_map pair) m.2

pub length-pairs : (bits : List Bool) → length (flat_map pair bits) ≡ 2 * length bits
length-pairs [] = refl
length-pairs (bit ∷ bits) = omega (arith, length-pairs bits)

-- ---- words
number_of_frame : (f : FramedWord) → f.value < 2 ^ 16 → number_of_bits (frame_bits f) ≡ 2 * f.value + bit_value f.parity
number_of_frame f h = omega (arith, number_push (bits_of 16 f.value) f.parity, number_is 16 f.value h)

same_frame : (kind : Kind) (value : ℕ) (parity : Bool) (n : ℕ) → n ≡ 2 * value + bit_value parity
    → (let f : FramedWord = record { kind = kind; value = n / 2; parity = n % 2 == 1 } in f) ≡ record { kind = kind; value = value; parity = parity }
same_frame kind value parity n e =
    ap (λ m. (let f : FramedWord = record { kind = kind; value = m / 2; parity = m % 2 == 1 } in f)) e
    ∙ ap (λ v. (let f : FramedWord = record { kind = kind; value = v; parity = (2 * value + bit_value parity) % 2 == 1 } in f)) (bit_half value parity)
    ∙ ap (λ p. (let f : FramedWord = record { kind = kind; value = value; parity = p } in f)) (bit_odd value parity)

-- the half bits of a word are heard as it
pub frame_heard : (f : FramedWord) → f.value < 2 ^ 16 → frame_of (frame_halves f) ≡ Some f
unfolding frame_of frame_halves
frame_heard f h = by_kind f.kind f.value f.parity h where
  by_kind : (kind : Kind) (value : ℕ) (parity : Bool) → value < 2 ^ 16
      → frame_of (frame_halves (record { kind = kind; value = value; parity = parity })) ≡ Some (record { kind = kind; value = value; parity = parity })
  by_kind Label value parity h =
      let f : FramedWord = record { kind = Label; value = value; parity = parity } in
      ap (option_map (frame_from Label)) (pairs_heard (frame_bits f)) ∙ ap Some (same_frame Label value parity _ (number_of_frame f h))
  by_kind Plain value parity h =
      let f : FramedWord = record { kind = Plain; value = value; parity = parity } in
      ap (option_map (frame_from Plain)) (pairs_heard (frame_bits f)) ∙ ap Some (same_frame Plain value parity _ (number_of_frame f h))

kind_is : (halves : List Bool) (kind : Kind) → kind_of halves ≡ Some kind → halves ≡ sync kind
kind_is (true ∷ true ∷ true ∷ false ∷ false ∷ false ∷ []) kind h = ap sync (let k : Label ≡ kind = cc in k)
kind_is (false ∷ false ∷ false ∷ true ∷ true ∷ true ∷ []) kind h = ap sync (let k : Plain ≡ kind = cc in k)
kind_is halves kind h = absurd cc

both : {A B C : Type 0} (o : Option A) (f : A → B → C) (q : Option B) (y : C) → option_and_then (λ a. option_map (f a) q) o ≡ Some y
    → (a : A) × (b : B) × (o ≡ Some a) × (q ≡ Some b) × (f a b ≡ y)
both None f q y h = absurd cc
both (Some a) f None y h = absurd cc
both (Some a) f (Some b) y h = (a, b, refl, refl, cc)

frame_bits_are : (kind : Kind) (bits : List Bool) → length bits ≡ 17 → frame_bits (frame_from kind bits) ≡ bits
frame_bits_are kind bits h = subst (λ c. bits_of c (number_of_bits bits) ≡ bits) h (bits_are bits)

-- half bits that are heard as a word, of which there are forty, are its half bits
pub heard_is : (halves : List Bool) (f : FramedWord) → length halves ≡ 40 → frame_of halves ≡ Some f
    → (halves ≡ frame_halves f) × (f.value < 2 ^ 16)
unfolding frame_of frame_halves
heard_is halves f count h =
    let b = both (kind_of (take 6 halves)) frame_from (bits_in (drop 6 halves)) f h in
    let kind : Kind = b.0 in
    let bits : List Bool = b.1 in
    let first : take 6 halves ≡ sync kind = kind_is (take 6 halves) kind b.2 in
    let rest : drop 6 halves ≡ flat_map pair bits = pairs_are (drop 6 halves) bits b.3 in
    let many : length bits ≡ 17 = omega (arith, length-drop 6 halves, ap length rest, length-pairs bits) in
    let low : number_of_bits bits < 2 ^ 17 = subst (λ c. number_of_bits bits < 2 ^ c) many (number_below bits) in
    let whole : halves ≡ sync kind ++ flat_map pair (frame_bits (frame_from kind bits)) =
    sym (take-append-drop 6 halves) ∙ ap (λ hs. hs ++ drop 6 halves) first ∙ ap (λ hs. sync kind ++ hs) (rest ∙ ap (flat_map pair) (sym (frame_bits_are kind bits many))) in
    (whole ∙ ap (λ (g : FramedWord). sync g.kind ++ flat_map pair (frame_bits g)) b.4, subst (λ (g : FramedWord). g.value < 2 ^ 16) b.4 (omega arith))

pub length-frame_halves : (f : FramedWord) → length (frame_halves f) ≡ 40
unfolding frame_halves
length-frame_halves f = by_kind f.kind where
  by_kind : (kind : Kind) → length (sync kind ++ flat_map pair (frame_bits f)) ≡ 40
  by_kind Label = omega (arith, length-pairs (frame_bits f), length-append (bits_of 16 f.value) (f.parity ∷ []), length-bits_of 16 f.value)
  by_kind Plain = omega (arith, length-pairs (frame_bits f), length-append (bits_of 16 f.value) (f.parity ∷ []), length-bits_of 16 f.value)

-- ---- digits
four_low : (a b c d : Bool) → number_of_bits (a ∷ b ∷ c ∷ d ∷ []) < 16
four_low a b c d = number_below (a ∷ b ∷ c ∷ d ∷ [])

digit_again : (a b c d : Bool) → digit_halves (hex_digit (number_of_bits (a ∷ b ∷ c ∷ d ∷ []))) ≡ a ∷ b ∷ c ∷ d ∷ []
digit_again a b c d =
    ap (bits_of 4) (digit_value-hex_digit (number_of_bits (a ∷ b ∷ c ∷ d ∷ [])) (four_low a b c d)) ∙ bits_are (a ∷ b ∷ c ∷ d ∷ [])

-- half bits, by whole fours, are those of their digits
pub halves_again : (n : ℕ) (halves : List Bool) → length halves ≡ 4 * n → halves_of (digits_of halves) ≡ halves
halves_again n [] h = refl
halves_again n (a ∷ []) h = absurd (omega (arith, h))
halves_again n (a ∷ b ∷ []) h = absurd (omega (arith, h))
halves_again n (a ∷ b ∷ c ∷ []) h = absurd (omega (arith, h))
halves_again n (a ∷ b ∷ c ∷ d ∷ rest) h =
    let shorter : length rest ≡ 4 * (n - 1) = omega (arith, h) in
    ap (λ hs. hs ++ halves_of (digits_of rest)) (digit_again a b c d) ∙ ap (λ hs. a ∷ b ∷ c ∷ d ∷ hs) (halves_again (n - 1) rest shorter)

-- digits in capitals are those of their half bits
pub digits_again : (digits : List ℕ) → list_all is_capital_digit digits ≡ true → digits_of (halves_of digits) ≡ digits
digits_again [] h = refl
digits_again (digit ∷ digits) h =
    let p = and_parts (is_capital_digit digit) (list_all is_capital_digit digits) h in
    let v : ℕ = digit_value digit in
    let value : hex_digit (number_of_bits (bits_of 4 v)) ≡ digit =
    ap hex_digit (number_is 4 v (digit_value-lt digit p.0)) ∙ hex_digit-digit_value digit p.0 in
    ap (λ d. d ∷ digits_of (halves_of digits)) value ∙ ap (λ ds. digit ∷ ds) (digits_again digits p.1)

pub length-halves_of : (digits : List ℕ) → length (halves_of digits) ≡ 4 * length digits
length-halves_of [] = refl
length-halves_of (digit ∷ digits) = omega (arith, length-halves_of digits)

length-digits_of : (n : ℕ) (halves : List Bool) → length halves ≡ 4 * n → length (digits_of halves) ≡ n
length-digits_of n [] h = omega (arith, h)
length-digits_of n (a ∷ []) h = absurd (omega (arith, h))
length-digits_of n (a ∷ b ∷ []) h = absurd (omega (arith, h))
length-digits_of n (a ∷ b ∷ c ∷ []) h = absurd (omega (arith, h))
length-digits_of n (a ∷ b ∷ c ∷ d ∷ rest) h = omega (arith, h, length-digits_of (n - 1) rest (omega (arith, h)))

all_capital : (halves : List Bool) → list_all is_capital_digit (digits_of halves) ≡ true
all_capital [] = refl
all_capital (a ∷ []) = refl
all_capital (a ∷ b ∷ []) = refl
all_capital (a ∷ b ∷ c ∷ []) = refl
all_capital (a ∷ b ∷ c ∷ d ∷ rest) =
    ap (λ t. t && list_all is_capital_digit (digits_of rest)) (is_capital_digit-hex_digit (number_of_bits (a ∷ b ∷ c ∷ d ∷ [])) (four_low a b c d))
    ∙ all_capital rest

-- forty half bits are ten digits
pub ten_digits : (halves : List Bool) → length halves ≡ 40 → are_digits (digits_of halves) ≡ true
ten_digits halves h =
    ap (λ t. t && list_all is_capital_digit (digits_of halves)) (eq-eqb _ _ (length-digits_of 10 halves h)) ∙ all_capital halves

-- and ten digits are forty half bits
pub forty_halves : (digits : List ℕ) → are_digits digits ≡ true → length (halves_of digits) ≡ 40
forty_halves digits h =
    let p = and_parts (length digits == 10) (list_all is_capital_digit digits) h in
    omega (arith, length-halves_of digits, eqb-true (length digits) 10 p.0)
