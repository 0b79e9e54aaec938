-- Texts and their lines: what lines read as, and what reads so.
use Rattle.std.proofs.Common.{arith, ◌≡◌, ◌≢◌, ℕ, zero, suc, ◌+◌, ◌*◌, ◌<◌, ◌^◌, Bool, true, false, not, cond, ◌==◌, List, [], ◌∷◌, ◌++◌, codes}
use Rattle.std.proofs.Common.{length, take, drop, get_or, Option, Some, None, Result, Ok, Err, refl, sym, ap, subst, ◌∙◌}
use Rattle.std.specs.Fmt.{decimal}
use Rattle.std.specs.Prelude.{slice_index_or}
use Rattle.std.specs.Bool.{beq}
use Rattle.std.specs.List.{slice_split, onto_first, join_with_byte, list_all, AllByRecursion}
use Rattle.std.proofs.lemmas.Bool.{and_parts, eqb-true, eq-eqb, ne_eqb}
use Rattle.std.proofs.lemmas.Bool.Decides.{nat_tests}
use Rattle.std.proofs.lemmas.Slice.Eq.{bytes_eq-Decides}
use Rattle.std.proofs.lemmas.List.Elements.{All-from_recursion}
use Rattle.std.proofs.lemmas.List.Splits.{slice_split_at, slice_split_none, length-slice_split, join_with_byte-slice_split}
use Rattle.bus_text.specs.inside.Spelled.{IsFieldByte}
use Rattle.bus_text.specs.Digits.{is_capital_digit}
use Rattle.bus_text.specs.Fields.{is_at}
use Rattle.bus_text.specs.Headers.{is_format_one}
use Rattle.bus_text.proofs.HeaderLaws.{format_found}
use Rattle.bus_text.specs.Lines.{is_feed}
use Rattle.bus_text.specs.Refusals.{first_of, unless}
use Rattle.bus_text.specs.Numbers.{is_plain_decimal, decimal_value}
use Rattle.bus_text.proofs.NumberLaws.{decimal_is, decimal_field, field_digits}
use Rattle.bus_text.proofs.CanonicalLaws.{feedless}
use Rattle.bus_text.proofs.NumberLemmas.{all_digits, decimal_again}
use Rattle.bus_words.specs.declared.word.Word.{Word}
use Rattle.bus_words.specs.declared.word.WordError.TheVariants.{Parity as WordParity}
use Rattle.bus_words.specs.declared.word.FramedWord.{FramedWord}
use Rattle.bus_words.specs.Words.{parity, frame, unframe}
use Rattle.bus_wave.specs.declared.fault.WaveReason.{WaveReason}
use Rattle.bus_wave.specs.declared.fault.WaveReason.TheVariants.{Keyword, Fields, Spelling}
use Rattle.bus_wave.specs.declared.symbol.Symbol.{Symbol}
use Rattle.bus_wave.specs.declared.symbol.Symbol.TheVariants as symbol
use Rattle.bus_wave.specs.Code.{digits_of, halves_of, frame_halves, frame_of}
use Rattle.bus_trace.specs.States.{is_space, spaced_fields}
use Rattle.bus_trace.proofs.AgainLines.{spaceless}
use Rattle.bus_wave.specs.Symbols.{head_reading, are_digits, parity_checked, coded, word_reading, quiet_reading}
use Rattle.bus_wave.specs.Symbols.{second_reading, symbol_reading}
use Rattle.bus_wave.specs.Waves.{word_halves}
use Rattle.bus_wave.proofs.CodeLemmas.{frame_heard, heard_is, length-frame_halves, halves_again, digits_again, ten_digits, forty_halves}

-- ---- bytes of a line
-- a keyword of one letter, a space and a field
two_fields : (letter : ℕ) (field : List ℕ) → is_space letter ≡ false → AllByRecursion IsFieldByte field
    → spaced_fields (letter ∷ 32 ∷ field) ≡ (letter ∷ []) ∷ field ∷ []
two_fields letter field a h =
    slice_split_at is_space (letter ∷ []) 32 field (All-from_recursion (λ b. is_space b ≡ false) (letter ∷ []) (a, tt)) refl
    ∙ ap (λ fs. (letter ∷ []) ∷ fs) (slice_split_none is_space field (All-from_recursion (λ b. is_space b ≡ false) field (spaceless field h)))

-- ---- a Q line
pub quiet_reads : (n : ℕ) → n < 2 ^ 64 → symbol_reading (spaced_fields (81 ∷ 32 ∷ decimal n)) ≡ Ok (symbol.Quiet n)
unfolding symbol_reading
quiet_reads n low =
    let d = decimal_is n low in
    ap symbol_of (two_fields 81 (decimal n) refl (decimal_field n low).bytes)
    ∙ ap (λ b. cond b (let r : Result Symbol WaveReason = Ok (symbol.Quiet (decimal_value (decimal n))) in r) (Err Spelling)) d.plain
    ∙ ap (λ k. (let r : Result Symbol WaveReason = Ok (symbol.Quiet k) in r)) d.value
  where
    symbol_of : List (List ℕ) → Result Symbol WaveReason
    symbol_of fields = symbol_reading fields

-- ---- a W line
capital_byte : (b : ℕ) → is_capital_digit b ≡ true → IsFieldByte b
capital_byte b h = record { no_blank = grind (arith, nat_tests); no_feed = grind (arith, nat_tests) }

capital_bytes : (digits : List ℕ) → list_all is_capital_digit digits ≡ true → AllByRecursion IsFieldByte digits
capital_bytes [] h = tt
capital_bytes (d ∷ ds) h = let p = and_parts (is_capital_digit d) (list_all is_capital_digit ds) h in (capital_byte d p.0, capital_bytes ds p.1)

beq_same : (b : Bool) → beq b b ≡ true
beq_same true = refl
beq_same false = refl

word_bytes : (word : Word) → AllByRecursion IsFieldByte (digits_of (word_halves word))
word_bytes word =
    capital_bytes (digits_of (word_halves word)) (and_parts (length (digits_of (word_halves word)) == 10) (list_all is_capital_digit (digits_of (word_halves word))) (ten_digits (word_halves word) (length-frame_halves (frame word)))).1

pub word_reads : (word : Word) → word.value < 2 ^ 16 → symbol_reading (spaced_fields (87 ∷ 32 ∷ digits_of (word_halves word))) ≡ Ok (symbol.Sent word)
unfolding symbol_reading
word_reads word low =
    let hs : List Bool = word_halves word in
    let count = length-frame_halves (frame word) in
    ap symbol_of (two_fields 87 (digits_of hs) refl (word_bytes word))
    ∙ ap (λ b. cond b (coded (frame_of (halves_of (digits_of hs)))) (Err Spelling)) (ten_digits hs count)
    ∙ ap (λ ks. coded (frame_of ks)) (halves_again 10 hs (let k : length hs ≡ 4 * 10 = count in k))
    ∙ ap coded (frame_heard (frame word) low)
    ∙ ap (λ b. parity_checked (cond b (Ok (record { kind = word.kind; value = word.value })) (Err WordParity))) (beq_same (parity word.value))
  where
    symbol_of : List (List ℕ) → Result Symbol WaveReason
    symbol_of fields = symbol_reading fields

-- ---- what reads so
-- a line is its fields, one space between them
pub joined : (line : List ℕ) → join_with_byte 32 (spaced_fields line) ≡ line
joined line = join_with_byte-slice_split 32 line

two : (fields : List (List ℕ)) (word : List ℕ) → is_at fields 0 word ≡ true → (length fields == 2) ≡ true → fields ≡ word ∷ slice_index_or fields 1 [] ∷ []
two [] word a b = absurd cc
two (first ∷ []) word a b = absurd (let n = eqb-true (length (first ∷ [])) 2 b in omega arith)
two (first ∷ second ∷ []) word a b = ap (λ f. f ∷ second ∷ []) ((bytes_eq-Decides first word).0 a)
two (first ∷ second ∷ third ∷ others) word a b = absurd (let n = eqb-true (length (first ∷ second ∷ third ∷ others)) 2 b in omega arith)

one : (fields : List (List ℕ)) (word : List ℕ) → is_at fields 0 word ≡ true → (length fields == 1) ≡ true → fields ≡ word ∷ []
one [] word a b = absurd cc
one (first ∷ []) word a b = ap (λ f. f ∷ []) ((bytes_eq-Decides first word).0 a)
one (first ∷ second ∷ others) word a b = absurd (let n = eqb-true (length (first ∷ second ∷ others)) 1 b in omega arith)

-- the bytes of a line that reads as a symbol; a number past the types' end is none of a line that is taken
abbrev pub IsLineOf : Symbol → List ℕ → Type 0
IsLineOf (symbol.Quiet n) line = n < 2 ^ 64 → line ≡ 81 ∷ 32 ∷ decimal n
IsLineOf (symbol.Sent word) line = (word.value < 2 ^ 16) × (line ≡ 87 ∷ 32 ∷ digits_of (word_halves word))
IsLineOf symbol.End line = line ≡ codes "END"

-- a plain decimal behind `Q` and a space is read as its number
pub plain_reads : (field : List ℕ) → is_plain_decimal field ≡ true → symbol_reading (spaced_fields (81 ∷ 32 ∷ field)) ≡ Ok (symbol.Quiet (decimal_value field))
unfolding symbol_reading
plain_reads field h =
    ap symbol_of (two_fields 81 field refl (field_digits field (all_digits field h)))
    ∙ ap (λ b. cond b (let r : Result Symbol WaveReason = Ok (symbol.Quiet (decimal_value field)) in r) (Err Spelling)) h
  where
    symbol_of : List (List ℕ) → Result Symbol WaveReason
    symbol_of fields = symbol_reading fields

quiet_found : (field : List ℕ) (s : Symbol) → quiet_reading field ≡ Ok s → IsLineOf s (81 ∷ 32 ∷ field)
quiet_found field s h =
    elim (is_plain_decimal field) as (λ b. is_plain_decimal field ≡ b → cond b (let r : Result Symbol WaveReason = Ok (symbol.Quiet (decimal_value field)) in r) (Err Spelling) ≡ Ok s → IsLineOf s (81 ∷ 32 ∷ field)) [
      | false ↦ λ e k. absurd cc
      | true ↦ λ e k. (let same : symbol.Quiet (decimal_value field) ≡ s = cc in subst (λ t. IsLineOf t (81 ∷ 32 ∷ field)) same (λ low. ap (λ f. 81 ∷ 32 ∷ f) (sym (decimal_again field e low))))
    ] refl h

beq_is : (a b : Bool) → beq a b ≡ true → a ≡ b
beq_is true true h = refl
beq_is true false h = absurd cc
beq_is false true h = absurd cc
beq_is false false h = refl

record IsChecked (f : FramedWord) (s : Symbol) : Type 0 where
  word : Word
  is : symbol.Sent word ≡ s
  framed : f ≡ frame word

checked_found : (f : FramedWord) (s : Symbol) → parity_checked (unframe f) ≡ Ok s → IsChecked f s
checked_found f s h = by_parity (beq f.parity (parity f.value)) refl h where
  by_parity : (b : Bool) → beq f.parity (parity f.value) ≡ b
      → parity_checked (cond b (Ok (record { kind = f.kind; value = f.value })) (Err WordParity)) ≡ Ok s → IsChecked f s
  by_parity false e k = absurd cc
  by_parity true e k =
      let w : Word = record { kind = f.kind; value = f.value } in
      let same : symbol.Sent w ≡ s = cc in
      record { word = w; is = same; framed = ap (λ p. (let g : FramedWord = record { kind = f.kind; value = f.value; parity = p } in g)) (beq_is f.parity (parity f.value) e) }

word_found : (field : List ℕ) (s : Symbol) → word_reading field ≡ Ok s → IsLineOf s (87 ∷ 32 ∷ field)
word_found field s h = by_digits (are_digits field) refl h where
  by_frame : (o : Option FramedWord) → are_digits field ≡ true → frame_of (halves_of field) ≡ o → coded o ≡ Ok s → IsLineOf s (87 ∷ 32 ∷ field)
  by_frame None d e k = absurd cc
  by_frame (Some f) d e k =
      let c = checked_found f s k in
      let is = heard_is (halves_of field) f (forty_halves field d) e in
      let halves : halves_of field ≡ word_halves c.word = is.0 ∙ ap frame_halves c.framed in
      let digits : field ≡ digits_of (word_halves c.word) =
      sym (digits_again field (and_parts (length field == 10) (list_all is_capital_digit field) d).1) ∙ ap digits_of halves in
      let low : c.word.value < 2 ^ 16 = subst (λ (g : FramedWord). g.value < 2 ^ 16) c.framed is.1 in
      subst (λ t. IsLineOf t (87 ∷ 32 ∷ field)) c.is (low, ap (λ ds. 87 ∷ 32 ∷ ds) digits)

  by_digits : (b : Bool) → are_digits field ≡ b → cond b (coded (frame_of (halves_of field))) (Err Spelling) ≡ Ok s → IsLineOf s (87 ∷ 32 ∷ field)
  by_digits false e k = absurd cc
  by_digits true e k = by_frame (frame_of (halves_of field)) e refl k

second_found : (read : List ℕ → Result Symbol WaveReason) (fields : List (List ℕ)) (word : List ℕ) (s : Symbol) → is_at fields 0 word ≡ true
    → second_reading read fields ≡ Ok s → (field : List ℕ) × (fields ≡ word ∷ field ∷ []) × (read field ≡ Ok s)
second_found read fields word s at h = by_count (length fields == 2) refl h where
  by_count : (b : Bool) → (length fields == 2) ≡ b → cond b (read (slice_index_or fields 1 [])) (Err Fields) ≡ Ok s
      → (field : List ℕ) × (fields ≡ word ∷ field ∷ []) × (read field ≡ Ok s)
  by_count false e k = absurd cc
  by_count true e k = (slice_index_or fields 1 [], two fields word at e, k)

pub symbol_found : (line : List ℕ) (s : Symbol) → symbol_reading (spaced_fields line) ≡ Ok s → IsLineOf s line
unfolding symbol_reading
symbol_found line s h = by_tests (is_at (spaced_fields line) 0 (codes "W")) (is_at (spaced_fields line) 0 (codes "Q")) (is_at (spaced_fields line) 0 (codes "END")) refl refl refl h where
  by_end : (b : Bool) → is_at (spaced_fields line) 0 (codes "END") ≡ true → (length (spaced_fields line) == 1) ≡ b
      → cond b (let r : Result Symbol WaveReason = Ok symbol.End in r) (Err Fields) ≡ Ok s → IsLineOf s line
  by_end false at e k = absurd cc
  by_end true at e k =
      let same : symbol.End ≡ s = cc in
      let is : line ≡ codes "END" = sym (joined line) ∙ ap (join_with_byte 32) (one (spaced_fields line) (codes "END") at e) in
      subst (λ t. IsLineOf t line) same is

  by_tests : (w q e : Bool) → is_at (spaced_fields line) 0 (codes "W") ≡ w → is_at (spaced_fields line) 0 (codes "Q") ≡ q → is_at (spaced_fields line) 0 (codes "END") ≡ e
      → cond w (second_reading word_reading (spaced_fields line)) (cond q (second_reading quiet_reading (spaced_fields line)) (cond e (cond (length (spaced_fields line) == 1) (Ok symbol.End) (Err Fields)) (Err Keyword))) ≡ Ok s
      → IsLineOf s line
  by_tests true q e a b d k =
      let f = second_found word_reading (spaced_fields line) (codes "W") s a k in
      let is : 87 ∷ 32 ∷ f.0 ≡ line = sym (ap (join_with_byte 32) f.1) ∙ joined line in
      subst (λ (l : List ℕ). IsLineOf s l) is (word_found f.0 s f.2)
  by_tests false true e a b d k =
      let f = second_found quiet_reading (spaced_fields line) (codes "Q") s b k in
      let is : 81 ∷ 32 ∷ f.0 ≡ line = sym (ap (join_with_byte 32) f.1) ∙ joined line in
      subst (λ (l : List ℕ). IsLineOf s l) is (quiet_found f.0 s f.2)
  by_tests false false true a b d k = by_end (length (spaced_fields line) == 1) d refl k
  by_tests false false false a b d k = absurd cc

-- ---- the first line
two_rows : (a b : Bool) (p q : WaveReason) (u : Unit {0}) → unless (first_of ((not a, p) ∷ (not b, q) ∷ [])) (tt {0}) ≡ Ok u → (a ≡ true) × (b ≡ true)
two_rows true true p q u h = (refl, refl)
two_rows true false p q u h = absurd cc
two_rows false b p q u h = absurd cc

pub head_found : (line : List ℕ) (u : Unit {0}) → head_reading (spaced_fields line) ≡ Ok u → line ≡ codes "WAVE 1"
unfolding head_reading
head_found line u h =
    let r = two_rows (is_at (spaced_fields line) 0 (codes "WAVE")) (is_format_one (spaced_fields line)) Keyword Fields u h in
    sym (joined line) ∙ ap (join_with_byte 32) (format_found (codes "WAVE") (spaced_fields line) r.0 r.1)

pub head_reads : head_reading (spaced_fields (codes "WAVE 1")) ≡ Ok tt
unfolding head_reading
head_reads = refl

pub end_reads : symbol_reading (spaced_fields (codes "END")) ≡ Ok symbol.End
unfolding symbol_reading
end_reads = refl

-- ---- pieces of a text
pub some_piece : (text : List ℕ) → (first : List ℕ) × (others : List (List ℕ)) × (slice_split is_feed text ≡ first ∷ others)
some_piece [] = ([], [], refl)
some_piece (b ∷ bs) =
    let r = some_piece bs in
    elim (is_feed b) as (λ t. (first : List ℕ) × (others : List (List ℕ)) × (cond t ([] ∷ slice_split is_feed bs) (onto_first b (slice_split is_feed bs)) ≡ first ∷ others)) [
      | true ↦ ([], slice_split is_feed bs, refl)
      | false ↦ (b ∷ r.0, r.1, ap (onto_first b) r.2)
    ]

-- a line without a line feed, and what is behind it
pub line_split : (line rest : List ℕ) → AllByRecursion (λ b. is_feed b ≡ false) line → slice_split is_feed (line ++ 10 ∷ rest) ≡ line ∷ slice_split is_feed rest
line_split line rest h = slice_split_at is_feed line 10 rest (All-from_recursion (λ b. is_feed b ≡ false) line h) refl

pub quiet_feedless : (n : ℕ) → n < 2 ^ 64 → AllByRecursion (λ b. is_feed b ≡ false) (81 ∷ 32 ∷ decimal n)
quiet_feedless n low = (refl, (refl, feedless (decimal n) (decimal_field n low).bytes))

pub plain_feedless : (field : List ℕ) → is_plain_decimal field ≡ true → AllByRecursion (λ b. is_feed b ≡ false) (81 ∷ 32 ∷ field)
plain_feedless field h = (refl, (refl, feedless field (field_digits field (all_digits field h))))

pub word_feedless : (word : Word) → AllByRecursion (λ b. is_feed b ≡ false) (87 ∷ 32 ∷ digits_of (word_halves word))
word_feedless word = (refl, (refl, feedless (digits_of (word_halves word)) (word_bytes word)))

-- ---- cut at a byte
not_there : (byte : ℕ) (text : List ℕ) → ((k : ℕ) → k < length text → get_or text k 0 ≢ byte) → AllByRecursion (λ b. (b == byte) ≡ false) text
not_there byte [] h = tt
not_there byte (b ∷ bs) h = (ne_eqb b byte (h 0 (omega arith)), not_there byte bs (λ k less. h (suc k) (omega arith)))

pub uncut : (byte : ℕ) (text : List ℕ) → ((k : ℕ) → k < length text → get_or text k 0 ≢ byte) → slice_split (λ b. b == byte) text ≡ text ∷ []
uncut byte text h = slice_split_none (λ b. b == byte) text (All-from_recursion (λ b. (b == byte) ≡ false) text (not_there byte text h))

pub cut_at : (byte : ℕ) (text : List ℕ) (at : ℕ) → ((k : ℕ) → k < at → get_or text k 0 ≢ byte) → at < length text → get_or text at 0 ≡ byte
    → slice_split (λ b. b == byte) text ≡ take at text ∷ slice_split (λ b. b == byte) (drop (at + 1) text)
cut_at byte [] at h low e = absurd (omega (arith, low))
cut_at byte (b ∷ bs) zero h low e =
    ap (λ t. cond t ([] ∷ slice_split (λ c. c == byte) bs) (onto_first b (slice_split (λ c. c == byte) bs))) (eq-eqb b byte e)
cut_at byte (b ∷ bs) (suc at) h low e =
    let next : suc at + 1 ≡ suc (at + 1) = omega arith in
    ap (λ t. cond t ([] ∷ slice_split (λ c. c == byte) bs) (onto_first b (slice_split (λ c. c == byte) bs))) (ne_eqb b byte (h 0 (omega arith)))
    ∙ ap (onto_first b) (cut_at byte bs at (λ k less. h (suc k) (omega arith)) (omega arith) e)
    ∙ ap (λ n. (b ∷ take at bs) ∷ slice_split (λ c. c == byte) (drop n (b ∷ bs))) (sym next)

-- how many fields
pub not_alone : (fields : List (List ℕ)) (first rest : List ℕ) → fields ≡ first ∷ spaced_fields rest → (length fields == 1) ≡ false
not_alone fields first rest e = (let n = length-slice_split is_space rest in let m = ap length e in grind (arith, nat_tests, n, m))

pub not_two : (fields : List (List ℕ)) (first rest second third : List ℕ) → fields ≡ first ∷ spaced_fields rest → spaced_fields rest ≡ second ∷ spaced_fields third
    → (length fields == 2) ≡ false
not_two fields first rest second third e f =
    (let n = length-slice_split is_space third in let m = ap length e in let k = ap length f in grind (arith, nat_tests, n, m, k))
