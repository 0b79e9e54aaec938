-- How far a text keeps to the form of a word text.
use Rattle.std.proofs.Common.{arith, zero, suc, ◌≡◌, ℕ, ◌<◌, ◌≤◌, Bool, true, false, cond, ◌&&◌, List, [], ◌∷◌, ◌++◌, length, get_or, take, drop, slice_index_or, Some, None, Result, Ok, Err, refl, sym, ap, subst, ◌∙◌}
use Rattle.std.proofs.lemmas.Bool.{and_parts}
use Rattle.std.specs.Prelude.{IfOk, IfErr, is_some, ◌==◌, ◌≢◌}
use Rattle.std.specs.Bool.{beq}
use Rattle.std.specs.List.{list_all}
use Rattle.bus_text.specs.Digits.{is_capital_digit}
use Rattle.bus_text.specs.Numbers.{hexadecimal_value}
use Rattle.bus_words.specs.declared.word.Kind.{Kind}
use Rattle.bus_words.specs.declared.word.Kind.TheVariants.{Label, Plain}
use Rattle.bus_words.specs.declared.word.FramedWord.{FramedWord}
use Rattle.bus_words.specs.declared.word.Word.{Word}
use Rattle.bus_words.specs.declared.word.WordError.{WordError}
use Rattle.bus_words.specs.declared.word.WordError.TheVariants.{Shape, Parity}
use Rattle.bus_words.specs.Words.{parity, unframe}
use Rattle.bus_words.specs.WordTexts.{form, is_of, kept, IsFrameText, IsLongestFront, Fails, is_letter, is_bit, word_text, written_frame}
use Rattle.bus_words.specs.WordTexts.{read_word}
use Rattle.bus_words.specs.inside.Forms.{test_at}
use Rattle.bus_words.proofs.WordTextLaws.{is_of-frame_text, frame_text-written_frame, length_of_form, six_bytes, same_frame, word_text-read_word}

-- the four digits
pub digits_stand : (place byte : ℕ) → 1 ≤ place → place ≤ 4 → test_at place byte ≡ is_capital_digit byte
digits_stand zero byte h k = absurd (omega arith)
digits_stand (suc zero) byte h k = refl
digits_stand (suc (suc zero)) byte h k = refl
digits_stand (suc (suc (suc zero))) byte h k = refl
digits_stand (suc (suc (suc (suc zero)))) byte h k = refl
digits_stand (suc (suc (suc (suc (suc n))))) byte h k = absurd (omega arith)

-- nothing stands behind the sixth byte
pub none_stands : (place byte : ℕ) → 6 ≤ place → test_at place byte ≡ false
none_stands zero byte h = absurd (omega arith)
none_stands (suc zero) byte h = absurd (omega arith)
none_stands (suc (suc zero)) byte h = absurd (omega arith)
none_stands (suc (suc (suc zero))) byte h = absurd (omega arith)
none_stands (suc (suc (suc (suc zero)))) byte h = absurd (omega arith)
none_stands (suc (suc (suc (suc (suc zero))))) byte h = absurd (omega arith)
none_stands (suc (suc (suc (suc (suc (suc n)))))) byte h = refl

abbrev test_of : List (ℕ → Bool) → ℕ → ℕ → Bool
test_of tests place = slice_index_or tests place (λ _. false)

kept_at : (tests : List (ℕ → Bool)) (text : List ℕ) (n : ℕ) → n ≤ length text → ((k : ℕ) → k < n → test_of tests k (get_or text k 0) ≡ true) → (n < length text → test_of tests n (get_or text n 0) ≡ false) → kept tests text ≡ n
kept_at [] text zero h before at = refl
kept_at [] text (suc n) h before at = let wrong : false ≡ true = before 0 (omega arith) in absurd cc
kept_at (t ∷ ts) [] zero h before at = refl
kept_at (t ∷ ts) [] (suc n) h before at = absurd (omega arith)
kept_at (t ∷ ts) (b ∷ bs) zero h before at = ap (λ x. cond x (suc (kept ts bs)) 0) (at (omega arith))
kept_at (t ∷ ts) (b ∷ bs) (suc n) h before at =
    ap (λ x. cond x (suc (kept ts bs)) 0) (before 0 (omega arith))
    ∙ omega (arith, kept_at ts bs n (omega arith) (λ k i. before (suc k) (omega arith)) (λ i. at (omega arith)))

pub kept_is : (text : List ℕ) (n : ℕ) → n ≤ length text → ((k : ℕ) → k < n → test_at k (get_or text k 0) ≡ true) → (n < length text → test_at n (get_or text n 0) ≡ false) → kept form text ≡ n
kept_is text n h before at = kept_at form text n h before at

-- ---- the longest front
within : (tests : List (ℕ → Bool)) (text : List ℕ) → kept tests text ≤ length text
within [] text = omega arith
within (t ∷ ts) [] = omega arith
within (t ∷ ts) (b ∷ bs) = by_test (within ts bs) (t b) where
  by_test : kept ts bs ≤ length bs → (x : Bool) → cond x (suc (kept ts bs)) 0 ≤ suc (length bs)
  by_test h true = omega arith
  by_test h false = omega arith

-- samples of a form go on where a text leaves it
filled : (tests : List (ℕ → Bool)) (samples text : List ℕ) → is_of tests samples ≡ true → is_of tests (take (kept tests text) text ++ drop (kept tests text) samples) ≡ true
filled [] samples text h = h
filled (t ∷ ts) samples [] h = h
filled (t ∷ ts) [] (b ∷ bs) h = absurd cc
filled (t ∷ ts) (s ∷ ss) (b ∷ bs) h = by_test (filled ts ss bs (and_parts (t s) _ h).1) (t b) refl where
  by_test : is_of ts (take (kept ts bs) bs ++ drop (kept ts bs) ss) ≡ true → (x : Bool) → t b ≡ x → is_of (t ∷ ts) (take (cond x (suc (kept ts bs)) 0) (b ∷ bs) ++ drop (cond x (suc (kept ts bs)) 0) (s ∷ ss)) ≡ true
  by_test others true e = ap (λ x. x && is_of ts (take (kept ts bs) bs ++ drop (kept ts bs) ss)) e ∙ others
  by_test others false e = h

begun : (tests : List (ℕ → Bool)) (text rest : List ℕ) (n : ℕ) → n ≤ length text → is_of tests (take n text ++ rest) ≡ true → n ≤ kept tests text
begun tests text rest zero h i = omega arith
begun tests [] rest (suc n) h i = absurd (omega arith)
begun [] (b ∷ bs) rest (suc n) h i = absurd cc
begun (t ∷ ts) (b ∷ bs) rest (suc n) h i =
    let p = and_parts (t b) _ i in
    let e : kept (t ∷ ts) (b ∷ bs) ≡ suc (kept ts bs) = ap (λ x. cond x (suc (kept ts bs)) 0) p.0 in
    omega (arith, e, begun ts bs rest n (omega arith) p.1)

framed : (text : List ℕ) → is_of form text ≡ true → IsFrameText text
framed text h = let f = frame_text-written_frame text h in (written_frame text, f.1, sym f.0)

formed : (text : List ℕ) → IsFrameText text → is_of form text ≡ true
formed text f = ap (is_of form) f.2 ∙ is_of-frame_text f.0

pub kept_is_longest : (text : List ℕ) → IsLongestFront text (kept form text)
kept_is_longest text = record {
  within = within form text;
  begins = (drop (kept form text) (68 ∷ 48 ∷ 48 ∷ 48 ∷ 48 ∷ 48 ∷ []), framed _ (filled form (68 ∷ 48 ∷ 48 ∷ 48 ∷ 48 ∷ 48 ∷ []) text refl));
  longest = λ n h begins. begun form text begins.0 n h (formed _ begins.1);
}

-- ---- reading
pub some_if : {A : Type 0} (t : Bool) (x y : A) → Some x ≡ cond t (Some y) None → (t ≡ true) × (x ≡ y)
some_if true x y h = (refl, cc)
some_if false x y h = absurd cc

pub none_if : {A : Type 0} (t : Bool) (y : A) → None ≡ cond t (Some y) None → t ≡ false
none_if true y h = absurd cc
none_if false y h = refl

pub is_some-if : {A : Type 0} (t : Bool) (y : A) → is_some (cond t (Some y) None) ≡ t
is_some-if true y = refl
is_some-if false y = refl

regroup : (a b c d p : Bool) → (a && (b && (c && (d && (p && true))))) ≡ ((a && (b && (c && (d && true)))) && p)
regroup false b c d p = refl
regroup true false c d p = refl
regroup true true false d p = refl
regroup true true true false p = refl
regroup true true true true false = refl
regroup true true true true true = refl

abbrev pub digits_of : List ℕ → List ℕ
digits_of text = get_or text 1 0 ∷ get_or text 2 0 ∷ get_or text 3 0 ∷ get_or text 4 0 ∷ []

-- the form of six bytes: a letter, four digits, a bit
pub form_of_six : (text : List ℕ) → length text ≡ 6 → is_of form text ≡ (is_letter (get_or text 0 0) && (list_all is_capital_digit (digits_of text) && is_bit (get_or text 5 0)))
form_of_six text h =
    ap (is_of form) (six_bytes text h)
    ∙ ap (λ t. is_letter (get_or text 0 0) && t) (regroup (is_capital_digit (get_or text 1 0)) (is_capital_digit (get_or text 2 0)) (is_capital_digit (get_or text 3 0)) (is_capital_digit (get_or text 4 0)) (is_bit (get_or text 5 0)))

pub digits_are : (text : List ℕ) → length text ≡ 6 → take 4 (drop 1 text) ≡ digits_of text
digits_are text h = ap (λ t. take 4 (drop 1 t)) (six_bytes text h)

pub frame_is : (text : List ℕ) → length text ≡ 6 → (k : Kind) (v : ℕ) (p : Bool) → k ≡ cond (get_or text 0 0 == 76) Label Plain → v ≡ hexadecimal_value (digits_of text) → p ≡ get_or text 5 0 == 49
    → let f : FramedWord = record { kind = k; value = v; parity = p } in f ≡ written_frame text
frame_is text six k v p h i j = same_frame k _ v _ p _ h (i ∙ ap hexadecimal_value (sym (digits_are text six))) j

pub not_six : (text : List ℕ) → length text ≢ 6 → is_of form text ≡ false
not_six text h = by_test (is_of form text) refl where
  by_test : (t : Bool) → is_of form text ≡ t → t ≡ false
  by_test true e = absurd (h (length_of_form form text e))
  by_test false e = refl

pub reads_framed : (text : List ℕ) (f : FramedWord) → Some f ≡ cond (is_of form text) (Some (written_frame text)) None → unframe f ≡ read_word text
reads_framed text f h =
    let k = some_if (is_of form text) f (written_frame text) h in
    ap unframe k.1 ∙ sym (ap (λ t. cond t (unframe (written_frame text)) (Err (Shape (kept form text)))) k.0)

pub reads_unformed : (text : List ℕ) → None ≡ cond (is_of form text) (Some (written_frame text)) None → Err (Shape (kept form text)) ≡ read_word text
reads_unformed text h = sym (ap (λ t. cond t (unframe (written_frame text)) (Err (Shape (kept form text)))) (none_if (is_of form text) (written_frame text) h))

pub is_found : (text : List ℕ) (r : Result Word WordError) → r ≡ read_word text → IfOk r (λ word. text ≡ word_text word)
is_found text (Ok word) h = (word_text-read_word text word (sym h)).0
is_found text (Err e) h = tt

parity_fails : (f : FramedWord) (e : WordError) → Err e ≡ unframe f → (e ≡ Parity) × (f.parity ≢ parity f.value)
parity_fails f e h = by_test (beq f.parity (parity f.value)) refl where
  other : (b c : Bool) → beq b c ≡ false → b ≢ c
  other true true h = absurd cc
  other true false h = λ k. cc
  other false true h = λ k. cc
  other false false h = absurd cc

  word : Word
  word = record { kind = f.kind; value = f.value }

  by_test : (t : Bool) → beq f.parity (parity f.value) ≡ t → (e ≡ Parity) × (f.parity ≢ parity f.value)
  by_test true t = let w : Err e ≡ Ok word = h ∙ ap (λ b. cond b (Ok word) (Err Parity)) t in absurd cc
  by_test false t = let w : Err e ≡ Err Parity = h ∙ ap (λ b. cond b (Ok word) (Err Parity)) t in (cc, other f.parity (parity f.value) t)

fails_at : (text : List ℕ) (e : WordError) → Err e ≡ read_word text → Fails text e
fails_at text e h = by_test (is_of form text) refl where
  by_test : (t : Bool) → is_of form text ≡ t → Fails text e
  by_test true i =
      let u : Err e ≡ unframe (written_frame text) = h ∙ ap (λ b. cond b (unframe (written_frame text)) (Err (Shape (kept form text)))) i in
      let k = parity_fails (written_frame text) e u in
      let f = frame_text-written_frame text i in
      subst (Fails text) (sym k.0) (written_frame text, f.1, sym f.0, k.1)
  by_test false i =
      let u : Err e ≡ Err (Shape (kept form text)) = h ∙ ap (λ b. cond b (unframe (written_frame text)) (Err (Shape (kept form text)))) i in
      let k : e ≡ Shape (kept form text) = cc in
      subst (Fails text) (sym k) ((λ f. let w : true ≡ false = sym (formed text f) ∙ i in absurd cc), kept_is_longest text)

pub is_cause : (text : List ℕ) (r : Result Word WordError) → r ≡ read_word text → IfErr r (Fails text)
is_cause text (Ok word) h = tt
is_cause text (Err e) h = fails_at text e h
