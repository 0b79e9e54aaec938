-- Laws of the first line of a text.
use Rattle.std.proofs.Common.{arith, ◌≡◌, ℕ, Bool, true, false, not, ◌==◌, List, [], ◌∷◌, length, codes, Result, Ok, Err, refl, ap, ◌∙◌}
use Rattle.std.proofs.lemmas.Bool.{and_parts, eqb-true}
use Rattle.std.proofs.lemmas.Slice.Eq.{bytes_eq-Decides}
use Rattle.bus_text.specs.AllOf.{◌>>=◌}
use Rattle.bus_text.specs.Fields.{is_at}
use Rattle.bus_text.specs.Headers.{header_fields, is_format_one, header_reading, behind_header}
use Rattle.bus_text.specs.Lines.{Entry}
use Rattle.bus_text.specs.Refusals.{first_of, unless, at_line}
use Rattle.bus_text.specs.declared.reason.Reason.{Reason}
use Rattle.bus_text.specs.declared.reason.Reason.TheVariants.{Keyword, Fields}
use Rattle.bus_text.proofs.AllOfLaws.{bind_ok}

-- ---- what reads as a first line is one
header_ok : (a b : Bool) (u : Unit {0}) → unless (first_of ((not a, Keyword) ∷ (not b, Fields) ∷ [])) tt ≡ Ok u → (a ≡ true) × (b ≡ true)
header_ok true true u h = (refl, refl)
header_ok true false u h = absurd cc
header_ok false b u h = absurd cc

-- two fields, the second of which is `1`
pub format_found : (word : List ℕ) (fields : List (List ℕ)) → is_at fields 0 word ≡ true → is_format_one fields ≡ true → fields ≡ header_fields word
format_found word fields p h = let n = and_parts (length fields == 2) (is_at fields 1 (codes "1")) h in by_fields fields p (eqb-true _ _ n.0) n.1 where
  by_fields : (fields : List (List ℕ)) → is_at fields 0 word ≡ true → length fields ≡ 2 → is_at fields 1 (codes "1") ≡ true → fields ≡ header_fields word
  by_fields [] p n q = absurd cc
  by_fields (keyword ∷ []) p n q = absurd cc
  by_fields (keyword ∷ one ∷ []) p n q = ap (λ f. f ∷ one ∷ []) ((bytes_eq-Decides keyword word).0 p) ∙ ap (λ f. word ∷ f ∷ []) ((bytes_eq-Decides one (codes "1")).0 q)
  by_fields (keyword ∷ one ∷ more ∷ others) p n q = absurd (omega arith)

header_found : (word : List ℕ) (fields : List (List ℕ)) (u : Unit {0}) → header_reading word fields ≡ Ok u → fields ≡ header_fields word
unfolding header_reading
header_found word fields u h = let k = header_ok (is_at fields 0 word) (is_format_one fields) u h in format_found word fields k.0 k.1

-- ---- and is read
header_again : (word : List ℕ) → header_reading word (header_fields word) ≡ Ok tt
unfolding header_reading
header_again word = ap (λ t. unless (first_of ((not t, Keyword) ∷ (not true, Fields) ∷ [])) tt) ((bytes_eq-Decides word word).1 refl)

-- ---- the lines behind it
line_ok : {A : Type 0} (line : ℕ) (r : Result A Reason) (x : A) → at_line line r ≡ Ok x → r ≡ Ok x
line_ok line (Ok y) x h = ap Ok cc
line_ok line (Err e) x h = absurd cc

-- there is a first line, and these are behind it
pub behind_found : (word : List ℕ) (entries : List Entry) (after : ℕ) (lines : List Entry) → behind_header word entries after ≡ Ok lines
    → (first : Entry) × (entries ≡ first ∷ lines) × (first.fields ≡ header_fields word)
unfolding behind_header
behind_found word [] after lines h = absurd cc
behind_found word (first ∷ others) after lines h =
    let a = bind_ok (at_line first.number (header_reading word first.fields)) (λ _. Ok others) lines h in
    let e : others ≡ lines = let k = a.2 in cc in
    (first, ap (λ es. first ∷ es) e, header_found word first.fields a.0 (line_ok first.number (header_reading word first.fields) a.0 a.1))

pub behind_again : (word : List ℕ) (first : Entry) (others : List Entry) (after : ℕ) → first.fields ≡ header_fields word → behind_header word (first ∷ others) after ≡ Ok others
unfolding behind_header
behind_again word first others after h =
    ap (λ fs. at_line first.number (header_reading word fs) >>= λ _. Ok others) h ∙ ap (λ r. at_line first.number r >>= λ _. Ok others) (header_again word)
