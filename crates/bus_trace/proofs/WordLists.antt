-- Fields that are word texts, and the wordstring that they write.
use Rattle.std.proofs.Common.{arith, ◌≡◌, ℕ, ◌+◌, ◌*◌, ◌/◌, ◌%◌, ◌<◌, ◌≤◌, ◌^◌, Bool, true, false, cond, ◌&&◌, List, [], ◌∷◌, length}
use Rattle.std.proofs.Common.{drop, map, slice_index_or, is_ok, Ok, Err, Some, None, refl, sym, ap, subst, ◌∙◌}
use Rattle.std.specs.Bool.{beq}
use Rattle.std.specs.declared.option.Option.{Option}
use Rattle.std.specs.List.{list_all, AllByRecursion}
use Rattle.std.proofs.lemmas.Bool.{and_parts}
use Rattle.std.proofs.lemmas.List.{length-map}
use denote.Ref.{Bor}
use Rattle.bus_text.specs.inside.Spelled.{IsField}
use Rattle.bus_text.specs.Entries.{texts}
use Rattle.bus_words.specs.declared.word.Kind.{Kind}
use Rattle.bus_words.specs.declared.word.Kind.TheVariants.{Label, Plain}
use Rattle.bus_words.specs.declared.word.Word.{Word}
use Rattle.bus_words.specs.declared.word.FramedWord.{FramedWord}
use Rattle.bus_words.specs.declared.word.WordError.TheVariants.{Shape, Parity}
use Rattle.bus_words.specs.Words.{parity, frame, unframe, label_word, data_word}
use Rattle.bus_words.specs.WordTexts.{form, is_of, kept, written_frame, word_text, read_word}
use Rattle.bus_words.proofs.WordTextLaws.{length_of_form, is_of-frame_text, written_frame-frame_text, read_word-word_text}
use Rattle.bus_words.proofs.WordTextLaws.{word_text-read_word, word_text-field}
use Rattle.bus_strings.specs.Messages.{Wordstring, IsWordstring}
use Rattle.bus_trace.specs.WordFields.{same_kind, is_spelled, has_parity, value_of, are_spelled, have_parity, string_of}
use Rattle.bus_trace.specs.Traces.{word_fields}

-- ---- fields of the code
pub list_all-texts : (p : List ℕ → Bool) (fields : List (Bor (List ℕ))) → list_all (λ f. p f.now) fields ≡ list_all p (texts fields)
list_all-texts p [] = refl
list_all-texts p (f ∷ fields) = ap (λ b. p f.now && b) (list_all-texts p fields)

pub map-texts : (v : List ℕ → ℕ) (fields : List (Bor (List ℕ))) → map (λ f. v f.now) fields ≡ map v (texts fields)
map-texts v [] = refl
map-texts v (f ∷ fields) = ap (λ ns. v f.now ∷ ns) (map-texts v fields)

pub spelled_is : (fields : List (Bor (List ℕ))) (label others : Bool) (first : List ℕ) (rest : List (List ℕ)) → 0 < length fields
    → label ≡ is_spelled Label first → first ≡ slice_index_or (texts fields) 0 []
    → others ≡ list_all (is_spelled Plain) rest → rest ≡ drop 1 (texts fields) → (label && others) ≡ are_spelled (texts fields)
spelled_is [] label others first rest h a b c d = absurd (omega arith)
spelled_is (f ∷ fields) label others first rest h a b c d =
    ap (λ x. x && others) (a ∙ ap (is_spelled Label) b) ∙ ap (λ x. is_spelled Label f.now && x) (c ∙ ap (list_all (is_spelled Plain)) d)

string_same : (l l' e e' : ℕ) (ws ws' : List ℕ) → l ≡ l' → e ≡ e' → ws ≡ ws'
    → let s : Wordstring = record { label = l; ext = e; words = ws } in let t : Wordstring =
    record { label = l'; ext = e'; words = ws' } in s ≡ t
string_same l l' e e' ws ws' h i j =
    ap (λ x. let s : Wordstring = record { label = x; ext = e; words = ws } in s) h
    ∙ ap (λ x. let s : Wordstring = record { label = l'; ext = x; words = ws } in s) i
    ∙ ap (λ x. let s : Wordstring = record { label = l'; ext = e'; words = x } in s) j

pub string_is_of : (fields : List (Bor (List ℕ))) (value label ext : ℕ) (first : List ℕ) (rest : List (List ℕ)) (words : List ℕ)
    → 0 < length fields → value ≡ value_of first → first ≡ slice_index_or (texts fields) 0 []
    → 16 * label + ext ≡ value → ext < 16 → words ≡ map value_of rest → rest ≡ drop 1 (texts fields)
    → let s : Wordstring = record { label = label; ext = ext; words = words } in s ≡ string_of (texts fields)
string_is_of [] value label ext first rest words h a b c d e f = absurd (omega arith)
string_is_of (g ∷ fields) value label ext first rest words h a b c d e f =
    let v : value ≡ value_of g.now = a ∙ ap value_of b in
    string_same label (value_of g.now / 16) ext (value_of g.now % 16) words (map value_of (texts fields)) (omega (arith, v, c, d))
    (omega (arith, v, c, d)) (e ∙ ap (map value_of) f)

-- what a frame that was read says of its field
framed_by : (t : Bool) (w f : FramedWord) → cond t (Some w) None ≡ Some f → (t ≡ true) × (w ≡ f)
framed_by true w f h = (refl, cc)
framed_by false w f h = absurd cc

pub framed : (kind : Kind) (field : List ℕ) (r : Option FramedWord) (f : FramedWord)
    → r ≡ cond (is_of form field) (Some (written_frame field)) None → r ≡ Some f → same_kind f.kind kind ≡ is_spelled kind field
framed kind field r f h e =
    let p = framed_by (is_of form field) (written_frame field) f (sym h ∙ e) in
    ap (λ (g : FramedWord). same_kind g.kind kind) (sym p.1) ∙ ap (λ t. t && same_kind (written_frame field).kind kind) (sym p.0)

none_by : (t : Bool) (w : FramedWord) → cond t (Some w) None ≡ None → t ≡ false
none_by true w h = absurd cc
none_by false w h = refl

pub not_framed : (field : List ℕ) (r : Option FramedWord) → r ≡ cond (is_of form field) (Some (written_frame field)) None → r ≡ None
    → 0 ≡ value_of field
not_framed field r h e = ap (λ t. cond t (written_frame field).value 0) (sym (none_by (is_of form field) (written_frame field) (sym h ∙ e)))

-- ---- a word that is read is written so
kind_is : (k l : Kind) → same_kind k l ≡ true → k ≡ l
kind_is Label Label h = refl
kind_is Label Plain h = absurd cc
kind_is Plain Label h = absurd cc
kind_is Plain Plain h = refl

value_is : (field : List ℕ) → is_of form field ≡ true → value_of field ≡ (written_frame field).value
value_is field h = ap (λ t. cond t (written_frame field).value 0) h

read_is : (field : List ℕ) → is_of form field ≡ true → is_ok (read_word field) ≡ true
    → read_word field ≡ Ok (record { kind = (written_frame field).kind; value = (written_frame field).value })
read_is field h e = by_test (beq (written_frame field).parity (parity (written_frame field).value)) refl where
  whole : read_word field ≡ unframe (written_frame field)
  whole = ap (λ t. cond t (unframe (written_frame field)) (Err (Shape (kept form field)))) h

  by_test : (t : Bool) → beq (written_frame field).parity (parity (written_frame field).value) ≡ t
      → read_word field ≡ Ok (record { kind = (written_frame field).kind; value = (written_frame field).value })
  by_test true k = whole ∙ ap (λ t. cond t (Ok (record { kind = (written_frame field).kind; value = (written_frame field).value }))
      (Err Parity)) k
  by_test false k =
      let w : read_word field ≡ Err Parity = whole ∙ ap (λ t. cond t
      (Ok (record { kind = (written_frame field).kind; value = (written_frame field).value })) (Err Parity)) k in
      absurd (no (sym (ap is_ok w) ∙ e)) where
        no : false ≡ true → ⊥
        no q = cc

pub word_is : (kind : Kind) (field : List ℕ) → is_spelled kind field ≡ true → has_parity field ≡ true
    → (word_text (record { kind = kind; value = value_of field }) ≡ field) × (value_of field < 2 ^ 16)
word_is kind field h e =
    let p = and_parts (is_of form field) (same_kind (written_frame field).kind kind) h in
    let w = word_text-read_word field (record { kind = (written_frame field).kind; value = (written_frame field).value })
    (read_is field p.0 e) in
    let k = kind_is (written_frame field).kind kind p.1 in
    let v = value_is field p.0 in
    let word : Kind → ℕ → Word = λ k n. record { kind = k; value = n } in (
      ap (λ n. word_text (word kind n)) v ∙ ap (λ q. word_text (word q (written_frame field).value)) (sym k) ∙ sym w.0,
      subst (λ n. n < 2 ^ 16) (sym v) w.1,
    )

words_are : (fs : List (List ℕ)) → list_all (is_spelled Plain) fs ≡ true → list_all has_parity fs ≡ true
    → (map (λ value. word_text (data_word value)) (map value_of fs) ≡ fs) × AllByRecursion (λ word. word < 2 ^ 16) (map value_of fs)
words_are [] h e = (refl, tt)
words_are (f ∷ fs) h e =
    let p = and_parts (is_spelled Plain f) (list_all (is_spelled Plain) fs) h in
    let q = and_parts (has_parity f) (list_all has_parity fs) e in
    let w = word_is Plain f p.0 q.0 in
    let r = words_are fs p.1 q.1 in
    (ap (λ x. x ∷ map (λ value. word_text (data_word value)) (map value_of fs)) w.0 ∙ ap (λ xs. f ∷ xs) r.0, (w.1, r.1))

label_again : (v : ℕ) → label_word (v / 16) (v % 16) ≡ record { kind = Label; value = v }
label_again v = let word : ℕ → Word = λ n. record { kind = Label; value = n } in ap word (omega arith)

-- fields that are right are those of the wordstring that they write
pub string_is : (fs : List (List ℕ)) → are_spelled fs ≡ true → have_parity fs ≡ true → length fs ≤ 257
    → (word_fields (string_of fs) ≡ fs) × IsWordstring (string_of fs)
string_is [] h e few = absurd cc
string_is (f ∷ fs) h e few =
    let p = and_parts (is_spelled Label f) (list_all (is_spelled Plain) fs) h in
    let q = and_parts (has_parity f) (list_all has_parity fs) e in
    let w = word_is Label f p.0 q.0 in
    let r = words_are fs p.1 q.1 in (
      ap (λ (x : List ℕ). x ∷ map (λ value. word_text (data_word value)) (map value_of fs))
          (ap word_text (label_again (value_of f)) ∙ w.0) ∙ ap (λ xs. f ∷ xs) r.0,
      record { label = omega (arith, w.1); ext = omega arith; few = omega (arith, few, length-map fs value_of); words = r.1 },
    )

-- ---- a word that is written is read again
same_again : (k : Kind) → same_kind k k ≡ true
same_again Label = refl
same_again Plain = refl

pub record Again (word : Word) : Type 0 where
  pub spelled : is_spelled word.kind (word_text word) ≡ true
  pub parity : has_parity (word_text word) ≡ true
  pub value : value_of (word_text word) ≡ word.value

pub word_again : (word : Word) → word.value < 2 ^ 16 → Again word
word_again word h =
    let o = is_of-frame_text (frame word) in
    let w = written_frame-frame_text (frame word) h in
    record {
      spelled = ap (λ t. t && same_kind (written_frame (word_text word)).kind word.kind) o
          ∙ ap (λ (f : FramedWord). same_kind f.kind word.kind) w ∙ same_again word.kind;
      parity = ap is_ok (read_word-word_text word h);
      value = value_is (word_text word) o ∙ ap (λ (f : FramedWord). f.value) w;
    }

pub length-word : (word : Word) → length (word_text word) ≡ 6
length-word word = length_of_form form (word_text word) (is_of-frame_text (frame word))

pub record WordsAgain (words : List ℕ) : Type 0 where
  pub spelled : list_all (is_spelled Plain) (map (λ value. word_text (data_word value)) words) ≡ true
  pub parity : list_all has_parity (map (λ value. word_text (data_word value)) words) ≡ true
  pub values : map value_of (map (λ value. word_text (data_word value)) words) ≡ words
  pub fields : AllByRecursion IsField (map (λ value. word_text (data_word value)) words)

pub words_again : (words : List ℕ) → AllByRecursion (λ word. word < 2 ^ 16) words → WordsAgain words
words_again [] h = record { spelled = refl; parity = refl; values = refl; fields = tt }
words_again (v ∷ vs) h =
    let w = word_again (data_word v) h.0 in
    let r = words_again vs h.1 in
    let texts_of : List (List ℕ) = map (λ value. word_text (data_word value)) vs in
    record {
      spelled = ap (λ b. b && list_all (is_spelled Plain) texts_of) w.spelled ∙ r.spelled;
      parity = ap (λ b. b && list_all has_parity texts_of) w.parity ∙ r.parity;
      values = ap (λ x. x ∷ map value_of texts_of) w.value ∙ ap (λ xs. v ∷ xs) r.values;
      fields = (word_text-field (data_word v), r.fields);
    }

-- the fields of a wordstring are right, and write it
pub record StringAgain (s : Wordstring) : Type 0 where
  pub spelled : are_spelled (word_fields s) ≡ true
  pub parity : have_parity (word_fields s) ≡ true
  pub string : string_of (word_fields s) ≡ s
  pub fields : AllByRecursion IsField (word_fields s)

pub string_again : (s : Wordstring) → IsWordstring s → StringAgain s
string_again s i =
    let w = word_again (label_word s.label s.ext) (omega (arith, i.label, i.ext)) in
    let r = words_again s.words i.words in
    let texts_of : List (List ℕ) = map (λ value. word_text (data_word value)) s.words in
    let v : value_of (word_text (label_word s.label s.ext)) ≡ 16 * s.label + s.ext = w.value in
    record {
      spelled = ap (λ b. b && list_all (is_spelled Plain) texts_of) w.spelled ∙ r.spelled;
      parity = ap (λ b. b && list_all has_parity texts_of) w.parity ∙ r.parity;
      string = string_same _ s.label _ s.ext _ s.words (omega (arith, v, i.ext)) (omega (arith, v, i.ext)) r.values;
      fields = (word_text-field (label_word s.label s.ext), r.fields);
    }
