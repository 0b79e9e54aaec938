-- Lines of one keyword, read one after another from the line that was looked at.
use Rattle.std.proofs.Common.{◌≡◌, ℕ, true, false, cond, List, [], ◌∷◌, ◌++◌, Result, Ok, Err, refl, sym, ap, ◌∙◌, append_assoc, append-nil}
use Rattle.bus_text.specs.AllOf.{◌>>=◌, all_of}
use Rattle.bus_text.proofs.AllOfLaws.{with_front}
use Rattle.bus_text.specs.Lines.{Entry}
use Rattle.bus_text.specs.Refusals.{Refusal, at_line}
use Rattle.bus_strings.specs.Items.{Item}
use Rattle.bus_strings.specs.Reading.{item_line}
use Rattle.bus_cable.specs.declared.cable.Named.{Named}
use Rattle.bus_text.specs.declared.error.TextError.{TextError}
use Rattle.bus_text.specs.declared.reason.Reason.{Reason}
use Rattle.bus_text.specs.declared.error.TextError.TheVariants.{Text, Memory}
use Rattle.bus_cable.specs.Reading.{named_reading, begins_with, front_of, behind, named_lines}
use Rattle.bus_text.specs.Gives.{Fails}

-- ---- where a line has the keyword
pub front_more : (word : List ℕ) (entry : Entry) (entries : List Entry) → begins_with word entry ≡ true → front_of word (entry ∷ entries) ≡ entry ∷ front_of word entries
front_more word entry entries h = ap (λ t. cond t (entry ∷ front_of word entries) []) h

pub front_none : (word : List ℕ) (entry : Entry) (entries : List Entry) → begins_with word entry ≡ false → front_of word (entry ∷ entries) ≡ []
front_none word entry entries h = ap (λ t. cond t (entry ∷ front_of word entries) []) h

pub behind_more : (word : List ℕ) (entry : Entry) (entries : List Entry) → begins_with word entry ≡ true → behind word (entry ∷ entries) ≡ behind word entries
behind_more word entry entries h = ap (λ t. cond t (behind word entries) (entry ∷ entries)) h

pub behind_none : (word : List ℕ) (entry : Entry) (entries : List Entry) → begins_with word entry ≡ false → behind word (entry ∷ entries) ≡ entry ∷ entries
behind_none word entry entries h = ap (λ t. cond t (behind word entries) (entry ∷ entries)) h

-- ---- one more line
pushed : (front : List Named) (named : Named) (r : Result (List Named) Refusal) → with_front front (r >>= λ others. Ok (named ∷ others)) ≡ with_front (front ++ named ∷ []) r
pushed front named (Ok others) = ap Ok (sym (append_assoc front (named ∷ []) others))
pushed front named (Err e) = refl

pub read_more : (most last : ℕ) (word : List ℕ) (front : List Named) (entry : Entry) (entries : List Entry) (named : Named) → begins_with word entry ≡ true
    → at_line entry.number (named_reading most last entry.fields) ≡ Ok named
    → with_front front (named_lines most last (front_of word (entry ∷ entries))) ≡ with_front (front ++ named ∷ []) (named_lines most named.terminal (front_of word entries))
read_more most last word front entry entries named h e =
    ap (λ es. with_front front (named_lines most last es)) (front_more word entry entries h)
    ∙ ap (λ r. with_front front (r >>= λ n. named_lines most n.terminal (front_of word entries) >>= λ others. Ok (n ∷ others))) e
    ∙ pushed front named (named_lines most named.terminal (front_of word entries))

fails_on : (error : TextError Reason) (front : List Named) (r : Result Named Refusal) (f : Named → Result (List Named) Refusal) → Fails error r → Fails error (with_front front (r >>= f))
fails_on Memory front r f h = tt
fails_on (Text line reason) front r f h = ap (λ x. with_front front (x >>= f)) h

pub read_fails : (most last : ℕ) (word : List ℕ) (front : List Named) (entry : Entry) (entries : List Entry) (error : TextError Reason) → begins_with word entry ≡ true
    → Fails error (at_line entry.number (named_reading most last entry.fields)) → Fails error (with_front front (named_lines most last (front_of word (entry ∷ entries))))
read_fails most last word front entry entries error h f =
    rw (front_more word entry entries h) (fails_on error front (at_line entry.number (named_reading most last entry.fields)) (λ n. named_lines most n.terminal (front_of word entries) >>= λ others. Ok (n ∷ others)) f)

-- ---- where no line is left, or another begins
pub read_none : (front : List Named) (most last : ℕ) (word : List ℕ) → with_front front (named_lines most last (front_of word [])) ≡ Ok front
read_none front most last word = ap Ok (append-nil front)

pub read_other : (most last : ℕ) (word : List ℕ) (front : List Named) (entry : Entry) (entries : List Entry) → begins_with word entry ≡ false
    → with_front front (named_lines most last (front_of word (entry ∷ entries))) ≡ Ok front
read_other most last word front entry entries h = ap (λ es. with_front front (named_lines most last es)) (front_none word entry entries h) ∙ ap Ok (append-nil front)

-- ---- items
items_pushed : (front : List Item) (item : Item) (r : Result (List Item) Refusal) → with_front front (r >>= λ others. Ok (item ∷ others)) ≡ with_front (front ++ item ∷ []) r
items_pushed front item (Ok others) = ap Ok (sym (append_assoc front (item ∷ []) others))
items_pushed front item (Err e) = refl

pub items_more : (front : List Item) (entry : Entry) (entries : List Entry) (item : Item) → item_line entry ≡ Ok item
    → with_front front (all_of item_line (entry ∷ entries)) ≡ with_front (front ++ item ∷ []) (all_of item_line entries)
items_more front entry entries item e =
    ap (λ r. with_front front (r >>= λ i. all_of item_line entries >>= λ others. Ok (i ∷ others))) e ∙ items_pushed front item (all_of item_line entries)
