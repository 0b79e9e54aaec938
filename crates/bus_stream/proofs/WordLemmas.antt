-- Fields that are spelled as words.
use Rattle.std.specs.List.{list_all, AllByRecursion}
use Rattle.std.specs.declared.option.Option.{Option}
use Rattle.std.specs.Option.{IsSome}
use Rattle.std.proofs.Common.{◌≡◌, ℕ, zero, suc, ◌<◌, Bool, true, cond, ◌&&◌, List, [], ◌∷◌, drop, length, slice_index_or, Some, None, arith, refl, ap, sym, subst, ◌∙◌}
use Rattle.std.proofs.lemmas.Bool.{and_parts, and_from, le-leb}
use denote.Ref.{Bor}
use Rattle.bus_text.specs.Entries.{texts}
use Rattle.bus_words.specs.declared.word.FramedWord.{FramedWord}
use Rattle.bus_words.specs.declared.word.Kind.TheVariants.{Label}
use Rattle.bus_words.specs.WordTexts.{form, is_of}
use Rattle.bus_trace.specs.WordFields.{is_spelled}
use Rattle.bus_strings.specs.Messages.{Message, Wordstring, IsMessage, IsWordstring}
use Rattle.bus_stream.specs.Items.{are_words, fits, is_short}

pub words_are : (fields : List (Bor (List ℕ))) (label others : Bool) (first : List ℕ) (rest : List (List ℕ)) → 0 < length fields
    → label ≡ is_spelled Label first → first ≡ slice_index_or (texts fields) 0 []
    → others ≡ list_all (is_of form) rest → rest ≡ drop 1 (texts fields) → (label && others) ≡ are_words (texts fields)
words_are [] label others first rest h a b c d = absurd (omega (arith, h))
words_are (f ∷ fields) label others first rest h a b c d =
    ap (λ x. x && others) (a ∙ ap (is_spelled Label) b) ∙ ap (λ x. is_spelled Label f.now && x) (c ∙ ap (list_all (is_of form)) d)

-- each of them is of the form
pub all_of_form : (fields : List (List ℕ)) → are_words fields ≡ true → list_all (is_of form) fields ≡ true
all_of_form [] h = refl
all_of_form (f ∷ fields) h =
    let p = and_parts (is_spelled Label f) (list_all (is_of form) fields) h in
    let q = and_parts (is_of form f) _ p.0 in
    and_from (is_of form f) (list_all (is_of form) fields) q.0 p.1

pub all_at : {X : Type 0} (p : X → Bool) → (xs : List X) (k : ℕ) (d : X) → list_all p xs ≡ true → k < length xs → p (slice_index_or xs k d) ≡ true
all_at p [] k d h low = absurd (omega (arith, low))
all_at p (x ∷ xs) zero d h low = (and_parts (p x) (list_all p xs) h).0
all_at p (x ∷ xs) (suc k) d h low = all_at p xs k d (and_parts (p x) (list_all p xs) h).1 (omega (arith, low))

pub is_framed : (t : Bool) (w : FramedWord) (r : Option FramedWord) → r ≡ cond t (Some w) None → t ≡ true → IsSome r
is_framed t w r h e = let s : r ≡ Some w = h ∙ ap (λ b. cond b (Some w) None) e in subst IsSome (sym s) refl

-- ---- messages that fit

all_short : (strings : List Wordstring) → AllByRecursion IsWordstring strings → list_all is_short strings ≡ true
all_short [] h = refl
all_short (s ∷ strings) h = and_from (is_short s) (list_all is_short strings) (le-leb _ _ h.0.few) (all_short strings h.1)

pub fits_of : (m : Message) → IsMessage m → fits m ≡ true
fits_of m is = and_from _ _ (all_short m is.strings) (le-leb _ _ is.few)
