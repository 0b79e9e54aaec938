-- Laws of the text of a word: what is written is read, and what is read is written so.
use Rattle.std.proofs.Common.{arith, suc, ◌≡◌, ℕ, ◌+◌, ◌*◌, ◌/◌, ◌%◌, ◌<◌, ◌^◌, Bool, true, false, cond, ◌&&◌, ◌==◌, List, [], ◌∷◌, length}
use Rattle.std.proofs.Common.{get_or, Ok, Err, refl, sym, ap, subst, ◌∙◌, lit<}
use Rattle.std.specs.Bool.{beq}
use Rattle.std.specs.Char.{digit_value}
use Rattle.std.proofs.lemmas.Bool.{and_parts}
use Rattle.std.proofs.lemmas.Bool.Decides.{nat_tests}
use Rattle.bus_text.specs.inside.Spelled.{IsFieldByte, IsField}
use Rattle.bus_text.specs.Digits.{hex_digit, is_capital_digit, hexadecimal}
use Rattle.bus_text.proofs.DigitLaws.{digit_value-lt, hex_digit-digit_value, is_capital_digit-hex_digit, hexadecimal_is, hexadecimal_field}
use Rattle.bus_text.specs.Numbers.{hexadecimal_value}
use Rattle.bus_words.specs.declared.word.Kind.{Kind}
use Rattle.bus_words.specs.declared.word.Kind.TheVariants.{Label, Plain}
use Rattle.bus_words.specs.declared.word.Word.{Word}
use Rattle.bus_words.specs.declared.word.FramedWord.{FramedWord}
use Rattle.bus_words.specs.declared.word.WordError.TheVariants.{Shape, Parity}
use Rattle.bus_words.specs.Words.{parity, frame, unframe}
use Rattle.bus_words.specs.WordTexts.{letter, bit_digit, frame_text, word_text, is_letter, is_bit, form, is_of, kept, written_frame}
use Rattle.bus_words.specs.WordTexts.{read_word}

-- ---- a text of the form, byte by byte
same_six : (a b c d e f a' b' c' d' e' f' : ℕ) → a ≡ a' → b ≡ b' → c ≡ c' → d ≡ d' → e ≡ e' → f ≡ f'
    → a ∷ b ∷ c ∷ d ∷ e ∷ f ∷ [] ≡ a' ∷ b' ∷ c' ∷ d' ∷ e' ∷ f' ∷ []
same_six a b c d e f a' b' c' d' e' f' h i j k l m = cc

letter_is : (l : ℕ) → is_letter l ≡ true → letter (cond (l == 76) Label Plain) ≡ l
letter_is l h = by_test (l == 76) refl where
  by_test : (t : Bool) → l == 76 ≡ t → letter (cond t Label Plain) ≡ l
  by_test true e = grind (arith, nat_tests)
  by_test false e = grind (arith, nat_tests)

bit_is : (b : ℕ) → is_bit b ≡ true → bit_digit (b == 49) ≡ b
bit_is b h = by_test (b == 49) refl where
  by_test : (t : Bool) → b == 49 ≡ t → bit_digit t ≡ b
  by_test true e = grind (arith, nat_tests)
  by_test false e = grind (arith, nat_tests)

-- the four numbers below 16 that a number of four digits has
parts : (a b c d : ℕ) → a < 16 → b < 16 → c < 16 → d < 16
    → let n = (((0 + a) * 16 + b) * 16 + c) * 16 + d in
    (n / 16 / 16 / 16 % 16 ≡ a) × (n / 16 / 16 % 16 ≡ b) × (n / 16 % 16 ≡ c) × (n % 16 ≡ d) × (n < 2 ^ 16)
parts a b c d h i j k = (omega arith, omega arith, omega arith, omega arith, omega arith)

-- what the form says of each byte
tests : (l a b c d p : ℕ) → is_of form (l ∷ a ∷ b ∷ c ∷ d ∷ p ∷ []) ≡ true
    → (is_letter l ≡ true) × (is_capital_digit a ≡ true) × (is_capital_digit b ≡ true) × (is_capital_digit c ≡ true)
    × (is_capital_digit d ≡ true) × (is_bit p ≡ true)
tests l a b c d p h =
    let h1 = and_parts (is_letter l) _ h in
    let h2 = and_parts (is_capital_digit a) _ h1.1 in
    let h3 = and_parts (is_capital_digit b) _ h2.1 in
    let h4 = and_parts (is_capital_digit c) _ h3.1 in
    let h5 = and_parts (is_capital_digit d) _ h4.1 in
    (h1.0, h2.0, h3.0, h4.0, h5.0, (and_parts (is_bit p) true h5.1).0)

six_written : (l a b c d p : ℕ) → is_of form (l ∷ a ∷ b ∷ c ∷ d ∷ p ∷ []) ≡ true
    → let text : List ℕ = l ∷ a ∷ b ∷ c ∷ d ∷ p ∷ [] in
    (frame_text (written_frame text) ≡ text) × ((written_frame text).value < 2 ^ 16)
six_written l a b c d p h =
    let t = tests l a b c d p h in
    let low = digit_value-lt in
    let q = parts (digit_value a) (digit_value b) (digit_value c) (digit_value d) (low a t.1) (low b t.2) (low c t.3) (low d t.4) in (
      same_six _ _ _ _ _ _ l a b c d p (letter_is l t.0)
          (ap hex_digit q.0 ∙ hex_digit-digit_value a t.1) (ap hex_digit q.1 ∙ hex_digit-digit_value b t.2)
          (ap hex_digit q.2 ∙ hex_digit-digit_value c t.3) (ap hex_digit q.3 ∙ hex_digit-digit_value d t.4) (bit_is p t.5),
      q.4,
    )

-- a text of a form is as long as the form
pub length_of_form : (tests : List (ℕ → Bool)) (text : List ℕ) → is_of tests text ≡ true → length text ≡ length tests
length_of_form [] [] h = refl
length_of_form [] (b ∷ bs) h = absurd cc
length_of_form (t ∷ ts) [] h = absurd cc
length_of_form (t ∷ ts) (b ∷ bs) h = ap suc (length_of_form ts bs (and_parts (t b) _ h).1)

-- a list of six is that of its six places
pub six_bytes : (text : List ℕ) → length text ≡ 6
    → text ≡ get_or text 0 0 ∷ get_or text 1 0 ∷ get_or text 2 0 ∷ get_or text 3 0 ∷ get_or text 4 0 ∷ get_or text 5 0 ∷ []
six_bytes [] h = absurd (omega arith)
six_bytes (a ∷ []) h = absurd (omega arith)
six_bytes (a ∷ b ∷ []) h = absurd (omega arith)
six_bytes (a ∷ b ∷ c ∷ []) h = absurd (omega arith)
six_bytes (a ∷ b ∷ c ∷ d ∷ []) h = absurd (omega arith)
six_bytes (a ∷ b ∷ c ∷ d ∷ e ∷ []) h = absurd (omega arith)
six_bytes (a ∷ b ∷ c ∷ d ∷ e ∷ f ∷ []) h = refl
six_bytes (a ∷ b ∷ c ∷ d ∷ e ∷ f ∷ g ∷ gs) h = absurd (omega arith)

-- a text of the form is that of the frame that it writes
pub frame_text-written_frame : (text : List ℕ) → is_of form text ≡ true
    → (frame_text (written_frame text) ≡ text) × ((written_frame text).value < 2 ^ 16)
frame_text-written_frame text h =
    let e = six_bytes text (length_of_form form text h) in
    let P : List ℕ → Type 0 = λ t. (frame_text (written_frame t) ≡ t) × ((written_frame t).value < 2 ^ 16) in
    subst P (sym e) (six_written (get_or text 0 0) (get_or text 1 0) (get_or text 2 0) (get_or text 3 0) (get_or text 4 0) (get_or text 5 0)
    (ap (is_of form) (sym e) ∙ h))

-- ---- a frame, written and read
letter_of : (kind : Kind) → (is_letter (letter kind) ≡ true) × (cond (letter kind == 76) Label Plain ≡ kind)
letter_of Label = (refl, refl)
letter_of Plain = (refl, refl)

bit_of : (bit : Bool) → (is_bit (bit_digit bit) ≡ true) × (bit_digit bit == 49 ≡ bit)
bit_of true = (refl, refl)
bit_of false = (refl, refl)

all_true : (l a b c d p : Bool) → l ≡ true → a ≡ true → b ≡ true → c ≡ true → d ≡ true → p ≡ true
    → (l && (a && (b && (c && (d && (p && true)))))) ≡ true
all_true l a b c d p h i j k m n = rw (h, i, j, k, m, n) refl

-- frames are equal where their parts are
pub same_frame : (k k' : Kind) (v v' : ℕ) (p p' : Bool) → k ≡ k' → v ≡ v' → p ≡ p'
    → let f : FramedWord = record { kind = k; value = v; parity = p } in
    let g : FramedWord = record { kind = k'; value = v'; parity = p' } in f ≡ g
same_frame k k' v v' p p' h i j =
    ap (λ x. let f : FramedWord = record { kind = x; value = v; parity = p } in f) h
    ∙ ap (λ x. let f : FramedWord = record { kind = k'; value = x; parity = p } in f) i
    ∙ ap (λ x. let f : FramedWord = record { kind = k'; value = v'; parity = x } in f) j

digit_low : (n : ℕ) → n % 16 < 16
digit_low n = omega arith

digit_again : (n : ℕ) → is_capital_digit (hex_digit (n % 16)) ≡ true
digit_again n = is_capital_digit-hex_digit (n % 16) (digit_low n)

-- the text of a frame is of the form, and writes that frame
pub is_of-frame_text : (f : FramedWord) → is_of form (frame_text f) ≡ true
is_of-frame_text f =
    all_true _ _ _ _ _ _ (letter_of f.kind).0 (digit_again (f.value / 16 / 16 / 16)) (digit_again (f.value / 16 / 16))
    (digit_again (f.value / 16)) (digit_again f.value) (bit_of f.parity).0

four_again : (n : ℕ) → n < 2 ^ 16 → hexadecimal_value (hexadecimal 4 n) ≡ n
four_again n h = (hexadecimal_is 4 n h).value

pub written_frame-frame_text : (f : FramedWord) → f.value < 2 ^ 16 → written_frame (frame_text f) ≡ f
written_frame-frame_text f h = same_frame _ f.kind _ f.value _ f.parity (letter_of f.kind).1 (four_again f.value h) (bit_of f.parity).1

-- ---- a word, written and read
unframe-frame : (word : Word) → unframe (frame word) ≡ Ok word
unframe-frame word = ap (λ t. cond t (Ok word) (Err Parity)) (same_bit (parity word.value)) where
  same_bit : (b : Bool) → beq b b ≡ true
  same_bit true = refl
  same_bit false = refl

-- the text of a word reads as the word
pub read_word-word_text : (word : Word) → word.value < 2 ^ 16 → read_word (word_text word) ≡ Ok word
read_word-word_text word h =
    ap (λ t. cond t (unframe (written_frame (word_text word))) (Err (Shape (kept form (word_text word))))) (is_of-frame_text (frame word))
    ∙ ap unframe (written_frame-frame_text (frame word) h) ∙ unframe-frame word

unframed : (f : FramedWord) (word : Word) → unframe f ≡ Ok word → f ≡ frame word
unframed f word h = by_test (beq f.parity (parity f.value)) refl where
  same_bits : (b c : Bool) → beq b c ≡ true → b ≡ c
  same_bits true true h = refl
  same_bits true false h = absurd cc
  same_bits false true h = absurd cc
  same_bits false false h = refl

  by_test : (t : Bool) → beq f.parity (parity f.value) ≡ t → f ≡ frame word
  by_test true e =
      let w : Ok (record { kind = f.kind; value = f.value }) ≡ Ok word =
      sym (ap (λ t. cond t (Ok (record { kind = f.kind; value = f.value })) (Err Parity)) e) ∙ h in
      let same : record { kind = f.kind; value = f.value } ≡ word = cc in
      same_frame f.kind f.kind f.value f.value f.parity (parity f.value) refl refl (same_bits f.parity (parity f.value) e) ∙ ap frame same
  by_test false e =
      let w : Err Parity ≡ Ok word = sym (ap (λ t. cond t (Ok (record { kind = f.kind; value = f.value })) (Err Parity)) e) ∙ h in absurd cc

-- what reads as a word is its text
pub word_text-read_word : (text : List ℕ) (word : Word) → read_word text ≡ Ok word → (text ≡ word_text word) × (word.value < 2 ^ 16)
word_text-read_word text word h = by_test (is_of form text) refl where
  by_test : (t : Bool) → is_of form text ≡ t → (text ≡ word_text word) × (word.value < 2 ^ 16)
  by_test true e =
      let f = frame_text-written_frame text e in
      let u : unframe (written_frame text) ≡ Ok word =
      sym (ap (λ t. cond t (unframe (written_frame text)) (Err (Shape (kept form text)))) e) ∙ h in
      let same = unframed (written_frame text) word u in
      (sym f.0 ∙ ap frame_text same, subst (λ (g : FramedWord). g.value < 2 ^ 16) same f.1)
  by_test false e =
      let w : Err (Shape (kept form text)) ≡ Ok word =
      sym (ap (λ t. cond t (unframe (written_frame text)) (Err (Shape (kept form text)))) e) ∙ h in
      absurd cc

-- the text of a word is a field: no byte of it is a blank or a line feed
letter_byte : (kind : Kind) → IsFieldByte (letter kind)
letter_byte Label = record { no_blank = refl; no_feed = refl }
letter_byte Plain = record { no_blank = refl; no_feed = refl }

bit_byte : (bit : Bool) → IsFieldByte (bit_digit bit)
bit_byte true = record { no_blank = refl; no_feed = refl }
bit_byte false = record { no_blank = refl; no_feed = refl }

pub word_text-field : (word : Word) → IsField (word_text word)
word_text-field word =
    let digits = (hexadecimal_field 4 word.value (lit< tt)).bytes in
    record {
      some = lit< tt;
      bytes = (letter_byte word.kind, (digits.0, (digits.1.0, (digits.1.1.0, (digits.1.1.1.0, (bit_byte (parity word.value), tt))))));
    }
