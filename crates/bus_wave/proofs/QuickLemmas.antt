-- Lines that are recognized as they are written.
use Rattle.std.proofs.Common.{arith, ◌≡◌, ◌≢◌, ℕ, zero, suc, ◌+◌, ◌-◌, ◌*◌, ◌/◌, ◌%◌, ◌<◌, ◌≤◌, ◌^◌, min, Bool, true, false, cond, ◌&&◌, ◌==◌, List, [], ◌∷◌, ◌++◌, length}
use Rattle.std.proofs.Common.{get_or, take, drop, Result, Ok, Option, Some, None, IfSome, refl, sym, ap, ◌∙◌, append_assoc, length-append}
use Rattle.std.proofs.Common.{take-append-drop, drop-cons}
use Rattle.std.specs.List.{slice_split}
use Rattle.std.specs.Option.{option_and_then}
use Rattle.std.proofs.lemmas.Bool.{and_parts, eqb-true}
use Rattle.std.proofs.lemmas.Bool.Decides.{nat_tests}
use Rattle.std.proofs.lemmas.List.{take_all, length-take, length-drop}
use Rattle.std.proofs.Math.Nat.{div-div-eq-div-mul}
use Rattle.bus_text.specs.Lines.{is_feed}
use Rattle.bus_text.specs.Numbers.{is_plain_decimal, decimal_value}
use Rattle.bus_words.specs.declared.word.Kind.{Kind}
use Rattle.bus_words.specs.declared.word.FramedWord.{FramedWord}
use Rattle.bus_words.specs.declared.word.Word.{Word}
use Rattle.bus_words.specs.Words.{frame}
use Rattle.bus_wave.specs.declared.fault.WaveReason.{WaveReason}
use Rattle.bus_wave.specs.declared.symbol.Symbol.{Symbol}
use Rattle.bus_wave.specs.declared.symbol.Symbol.TheVariants as symbol
use Rattle.bus_wave.specs.inside.Capped.{capped}
use Rattle.bus_wave.specs.Code.{digits_of, frame_halves}
use Rattle.bus_wave.specs.inside.Digits.{two_bits, gathered, code_digit, code_digits, first_digit, second_digit, frame_with}
use Rattle.bus_wave.specs.inside.Parts.{HasLine}
use Rattle.bus_wave.specs.inside.Puts.{word_put}
use Rattle.bus_trace.specs.States.{spaced_fields}
use Rattle.bus_wave.specs.Symbols.{symbol_reading}
use Rattle.bus_wave.specs.Waves.{word_halves}
use Rattle.bus_wave.proofs.DigitLemmas.{word_digits}
use Rattle.bus_wave.proofs.TextLemmas.{plain_reads, word_reads, word_feedless, line_split}

-- ---- the digits of a number of bits
-- a digit that has two bits is their digit
two_code : (digit two : ℕ) → two_bits digit ≡ Some two → (two < 4) × (digit ≡ code_digit two)
two_code digit two h = by_tests (digit == 53) (digit == 54) (digit == 57) (digit == 65) refl refl refl refl h where
  by_value : (byte bits : ℕ) → bits < 4 → digit ≡ byte → byte ≡ code_digit bits → bits ≡ two → (two < 4) × (digit ≡ code_digit two)
  by_value byte bits low e k same = (omega (arith, low, same), e ∙ k ∙ ap code_digit same)

  by_tests : (s t u v : Bool) → (digit == 53) ≡ s → (digit == 54) ≡ t → (digit == 57) ≡ u → (digit == 65) ≡ v
      → cond s (Some 0) (cond t (Some 1) (cond u (Some 2) (cond v (Some 3) None))) ≡ Some two → (two < 4) × (digit ≡ code_digit two)
  by_tests true t u v a b c d k = by_value 53 0 (omega arith) (eqb-true digit 53 a) refl cc
  by_tests false true u v a b c d k = by_value 54 1 (omega arith) (eqb-true digit 54 b) refl cc
  by_tests false false true v a b c d k = by_value 57 2 (omega arith) (eqb-true digit 57 c) refl cc
  by_tests false false false true a b c d k = by_value 65 3 (omega arith) (eqb-true digit 65 d) refl cc
  by_tests false false false false a b c d k = absurd cc

-- the highest digit in front of the others
code_highest : (n bits : ℕ) → code_digits (suc n) bits ≡ code_digit (bits / 4 ^ n % 4) ∷ code_digits n bits
code_highest zero bits = let e : bits ≡ bits / 4 ^ 0 = omega arith in ap (λ m. code_digit (m % 4) ∷ []) e
code_highest (suc n) bits =
    let e : bits / 4 / 4 ^ n ≡ bits / 4 ^ suc n = div-div-eq-div-mul bits 4 (4 ^ n) ∙ ap (λ m. bits / m) (let k : 4 * 4 ^ n ≡ 4 ^ suc n = omega arith in k) in
    ap (λ ds. ds ++ code_digit (bits % 4) ∷ []) (code_highest n (bits / 4)) ∙ ap (λ m. code_digit (m % 4) ∷ code_digits (suc n) bits) e

-- digits that give bits behind others are those of the bits, and the others stand in front
pub gathered_digits : (front : ℕ) (digits : List ℕ) (bits : ℕ) → gathered front digits ≡ Some bits
    → (digits ≡ code_digits (length digits) bits) × (bits / 4 ^ length digits ≡ front)
gathered_digits front [] bits h = let e : front ≡ bits = cc in (refl, omega (arith, e))
gathered_digits front (digit ∷ digits) bits h = by_two (two_bits digit) refl (λ two. gathered_digits (4 * front + two) digits bits) h where
  by_two : (o : Option ℕ) → two_bits digit ≡ o
      → ((two : ℕ) → gathered (4 * front + two) digits ≡ Some bits
      → (digits ≡ code_digits (length digits) bits) × (bits / 4 ^ length digits ≡ 4 * front + two))
      → option_and_then (λ two. gathered (4 * front + two) digits) o ≡ Some bits
      → (digit ∷ digits ≡ code_digits (length (digit ∷ digits)) bits) × (bits / 4 ^ length (digit ∷ digits) ≡ front)
  by_two None e again k = absurd cc
  by_two (Some two) e again k =
      let w = two_code digit two e in
      let low : two < 4 = w.0 in
      let r = again two k in
      let n : ℕ = length digits in
      let last : bits / 4 ^ n % 4 ≡ two = omega (arith, r.1, low) in
      let split : bits / 4 ^ n / 4 ≡ bits / (4 ^ n * 4) = div-div-eq-div-mul bits (4 ^ n) 4 in
      let power : 4 ^ n * 4 ≡ 4 ^ suc n = omega arith in
      let before : bits / 4 ^ n / 4 ≡ front = omega (arith, r.1, low) in (
        ap (λ d. d ∷ digits) w.1 ∙ ap (λ ds. code_digit two ∷ ds) r.0 ∙ ap (λ m. code_digit m ∷ code_digits n bits) (sym last) ∙ sym (code_highest n bits),
        ap (λ m. bits / m) (sym power) ∙ sym split ∙ before,
      )

-- ---- the table of bits
-- what the table has for two bits
abbrev entry_of : Option ℕ → ℕ
entry_of None = 4
entry_of (Some two) = two

-- whether the entries are those of the bytes from this one on
abbrev pub tells : ℕ → List ℕ → Bool
tells byte [] = true
tells byte (two ∷ twos) = (two == entry_of (two_bits byte)) && tells (suc byte) twos

tells_at : (byte : ℕ) (twos : List ℕ) (k : ℕ) → tells byte twos ≡ true → k < length twos → get_or twos k 0 ≡ entry_of (two_bits (byte + k))
tells_at byte [] k h l = absurd (omega (arith, l))
tells_at byte (two ∷ twos) zero h l =
    eqb-true two (entry_of (two_bits byte)) (and_parts (two == entry_of (two_bits byte)) (tells (suc byte) twos) h).0
    ∙ ap (λ b. entry_of (two_bits b)) (let e : byte ≡ byte + 0 = omega arith in e)
tells_at byte (two ∷ twos) (suc k) h l =
    tells_at (suc byte) twos k (and_parts (two == entry_of (two_bits byte)) (tells (suc byte) twos) h).1 (omega (arith, l))
    ∙ ap (λ b. entry_of (two_bits b)) (let e : suc byte + k ≡ byte + suc k = omega arith in e)

-- an entry of a table that tells
pub bits_at : (twos : List ℕ) (byte : ℕ) → tells 0 twos ≡ true → length twos ≡ 256 → byte < 256 → get_or twos byte 0 ≡ entry_of (two_bits byte)
bits_at twos byte h all l =
    tells_at 0 twos byte h (omega (arith, all, l)) ∙ ap (λ b. entry_of (two_bits b)) (let e : 0 + byte ≡ byte = omega arith in e)

-- an entry that is no 4 is the two bits
pub some_bits : (digit two : ℕ) → two ≡ entry_of (two_bits digit) → two ≢ 4 → (Some two ≡ two_bits digit) × (two < 4)
some_bits digit two h other = by_bits (two_bits digit) refl h where
  by_bits : (o : Option ℕ) → two_bits digit ≡ o → two ≡ entry_of o → (Some two ≡ two_bits digit) × (two < 4)
  by_bits None e k = absurd (other k)
  by_bits (Some bits) e k =
      let same : Some two ≡ Some bits = ap Some k in
      (same ∙ sym e, omega (arith, (two_code digit bits e).0, k))

-- ---- a line
-- a W line in front
pub word_first : (text behind : List ℕ) (word : Word) → word.value < 2 ^ 16 → text ≡ word_put word ++ behind
    → HasLine text (Ok (symbol.Sent word)) behind
word_first text behind word low h =
    let digits : List ℕ = digits_of (word_halves word) in
    record {
      first = 87 ∷ 32 ∷ digits;
      pieces = ap (slice_split is_feed) (h ∙ ap (λ t. 87 ∷ 32 ∷ t) (append_assoc digits (10 ∷ []) behind)) ∙ line_split (87 ∷ 32 ∷ digits) behind (word_feedless word);
      reads = sym (ap capped (word_reads word low));
    }

pub word_shorter : (text behind : List ℕ) (word : Word) → text ≡ word_put word ++ behind → length behind < length text
word_shorter text behind word h = omega (arith, ap length h, length-append (word_put word) behind)

-- a Q line whose number is found
pub quiet_read : (line field : List ℕ) (n : ℕ) → line ≡ 81 ∷ 32 ∷ field
    → Some n ≡ cond (is_plain_decimal field) (Some (min (decimal_value field) (2 ^ 64 - 1))) None
    → Ok (symbol.Quiet n) ≡ capped (symbol_reading (spaced_fields line))
quiet_read line field n e h = by_test (is_plain_decimal field) refl h where
  by_test : (b : Bool) → is_plain_decimal field ≡ b → Some n ≡ cond b (Some (min (decimal_value field) (2 ^ 64 - 1))) None
      → Ok (symbol.Quiet n) ≡ capped (symbol_reading (spaced_fields line))
  by_test false t k = absurd cc
  by_test true t k =
      let same : n ≡ min (decimal_value field) (2 ^ 64 - 1) = cc in
      ap (λ m. (let r : Result Symbol WaveReason = Ok (symbol.Quiet m) in r)) same
      ∙ sym (ap (λ l. capped (symbol_reading (spaced_fields l))) e ∙ ap capped (plain_reads field t))

pub quiet_some : (line field : List ℕ) (o : Option ℕ) → line ≡ 81 ∷ 32 ∷ field
    → o ≡ cond (is_plain_decimal field) (Some (min (decimal_value field) (2 ^ 64 - 1))) None
    → IfSome o (λ n. Ok (symbol.Quiet n) ≡ capped (symbol_reading (spaced_fields line)))
quiet_some line field None e h = tt
quiet_some line field (Some n) e h = quiet_read line field n e h

pub two_front : (line : List ℕ) → 2 ≤ length line → get_or line 0 0 ≡ 81 → get_or line 1 0 ≡ 32
    → line ≡ 81 ∷ 32 ∷ take (length line - 2) (drop 2 line)
two_front [] long a b = absurd (omega (arith, long))
two_front (x ∷ []) long a b = absurd (omega (arith, long))
two_front (x ∷ y ∷ rest) long a b =
    ap (λ t. x ∷ y ∷ t) (sym (take_all (length (x ∷ y ∷ rest) - 2) rest (omega arith))) ∙ ap (λ d. d ∷ y ∷ take (length (x ∷ y ∷ rest) - 2) rest) a
    ∙ ap (λ d. 81 ∷ d ∷ take (length (x ∷ y ∷ rest) - 2) rest) b

-- ---- a word
halved : (n : ℕ) → n ≡ 2 * (n / 2) + cond (n % 2 == 1) 1 0
halved n = omega (arith, odd) where
  odd : cond (n % 2 == 1) 1 0 ≡ n % 2
  odd = grind (arith, nat_tests)

pub framed_digits : (kind : Kind) (bits : ℕ) (f : FramedWord) (word : Word) → bits < 2 ^ 17 → f ≡ frame_with kind bits → f ≡ frame word
    → digits_of (word_halves word) ≡ first_digit kind ∷ second_digit kind (bits / 65536) ∷ code_digits 8 bits
framed_digits kind bits f word low e h =
    sym (word_digits kind (bits / 2) (bits % 2 == 1) bits (first_digit kind ∷ second_digit kind (bits / 65536) ∷ code_digits 8 bits)
    (omega (arith, low)) (halved bits) refl ∙ ap (λ (g : FramedWord). digits_of (frame_halves g)) (sym e ∙ h))

pub framed_low : (kind : Kind) (bits : ℕ) (f : FramedWord) (word : Word) → bits < 2 ^ 17 → f ≡ frame_with kind bits → f ≡ frame word
    → word.value < 2 ^ 16
framed_low kind bits f word low e h =
    let v : bits / 2 ≡ word.value = ap (λ (g : FramedWord). g.value) (sym e ∙ h) in omega (arith, low)

-- a text that has these bytes in front
pub line_front : (text : List ℕ) (kind : Kind) (front bits : ℕ) (word : Word) → 13 ≤ length text → get_or text 0 0 ≡ 87 → get_or text 1 0 ≡ 32
    → get_or text 12 0 ≡ 10 → get_or text 2 0 ≡ first_digit kind → get_or text 3 0 ≡ second_digit kind front
    → take 8 (drop 4 text) ≡ code_digits (length (take 8 (drop 4 text))) bits → bits / 4 ^ length (take 8 (drop 4 text)) ≡ front
    → digits_of (word_halves word) ≡ first_digit kind ∷ second_digit kind (bits / 65536) ∷ code_digits 8 bits
    → text ≡ word_put word ++ take (length text - 13) (drop 13 text)
line_front [] kind front bits word long w s n a b ds f h = absurd (omega (arith, long))
line_front (w0 ∷ []) kind front bits word long w s n a b ds f h = absurd (omega (arith, long))
line_front (w0 ∷ s0 ∷ []) kind front bits word long w s n a b ds f h = absurd (omega (arith, long))
line_front (w0 ∷ s0 ∷ a0 ∷ []) kind front bits word long w s n a b ds f h = absurd (omega (arith, long))
line_front (w0 ∷ s0 ∷ a0 ∷ b0 ∷ rest) kind front bits word long w s n a b ds f h =
    let eight : length (take 8 rest) ≡ 8 = length-take 8 rest ∙ omega (arith, long) in
    let digits : take 8 rest ≡ code_digits 8 bits = ds ∙ ap (λ m. code_digits m bits) eight in
    let top : front ≡ bits / 65536 = sym f ∙ ap (λ m. bits / 4 ^ m) eight in
    let left : ℕ = length (w0 ∷ s0 ∷ a0 ∷ b0 ∷ rest) - 13 in
    let all : take left (drop 9 rest) ≡ drop 9 rest = take_all left (drop 9 rest) (omega (arith, length-drop 9 rest)) in
    let tail : rest ≡ code_digits 8 bits ++ 10 ∷ drop 9 rest =
    sym (take-append-drop 8 rest) ∙ ap (λ t. take 8 rest ++ t) (drop-cons rest 8 0 (omega (arith, long)) ∙ ap (λ d. d ∷ drop 9 rest) n)
    ∙ ap (λ ds. ds ++ 10 ∷ drop 9 rest) digits in
    let head : w0 ∷ s0 ∷ a0 ∷ b0 ∷ rest ≡ 87 ∷ 32 ∷ first_digit kind ∷ second_digit kind (bits / 65536) ∷ (code_digits 8 bits ++ 10 ∷ drop 9 rest) =
    ap (λ d. d ∷ s0 ∷ a0 ∷ b0 ∷ rest) w ∙ ap (λ d. 87 ∷ d ∷ a0 ∷ b0 ∷ rest) s ∙ ap (λ d. 87 ∷ 32 ∷ d ∷ b0 ∷ rest) a
    ∙ ap (λ d. 87 ∷ 32 ∷ first_digit kind ∷ d ∷ rest) (b ∙ ap (second_digit kind) top)
    ∙ ap (λ t. 87 ∷ 32 ∷ first_digit kind ∷ second_digit kind (bits / 65536) ∷ t) tail in
    head
    ∙ ap (λ ds. 87 ∷ 32 ∷ (ds ++ 10 ∷ drop 9 rest)) (sym h)
    ∙ ap (λ t. 87 ∷ 32 ∷ t) (sym (append_assoc (digits_of (word_halves word)) (10 ∷ []) (drop 9 rest)))
    ∙ ap (λ t. word_put word ++ t) (sym all)
