-- A message is told by the label words and the words that it shows.
use Rattle.std.proofs.Common.{◌≡◌, ℕ, suc, ◌+◌, ◌-◌, ◌*◌, ◌/◌, ◌<◌, List, [], ◌∷◌, length, Option, Some, None}
use Rattle.std.proofs.Common.{inl, inr, arith, sym, refl, ap, subst, ◌∙◌}
use Rattle.std.specs.Prelude.{⊤}
use Rattle.std.specs.List.{AllByRecursion}
use Rattle.std.proofs.lemmas.Bool.{cases_lt}
use Rattle.std.proofs.lemmas.List.{ext_get_or}
use Rattle.bus_strings.specs.Messages.{IsWordstring, Message, Wordstring, word_count}
use Rattle.bus_dump.specs.OnBus.{Shown, label_value, shown_at, shown_of, word_at}
use Rattle.bus_dump.proofs.ShownStretchLemmas.{first_at, later_at, quiet_at}

-- nothing is shown twice, or two that have the same label word and the same word
abbrev pub Alike : Option Shown → Option Shown → Type 0
Alike None None = ⊤
Alike None (Some r) = ⊥
Alike (Some s) None = ⊥
Alike (Some s) (Some r) = (s.label ≡ r.label) × (s.word ≡ r.word)

pub alike_back : (o p : Option Shown) → Alike o p → Alike p o
alike_back None None h = tt
alike_back None (Some r) h = h
alike_back (Some s) None h = h
alike_back (Some s) (Some r) h = (sym h.0, sym h.1)

abbrev pub AreAlike : Message → Message → Type 0
AreAlike m n = (d : ℕ) → Alike (shown_at m d) (shown_at n d)

-- ---- the first wordstring
not_shorter : (s r : Wordstring) (m n : Message) → AreAlike (s ∷ m) (r ∷ n) → word_count s < word_count r → ⊥
not_shorter s r m n h less =
    let d : ℕ = 20 * word_count s in
    subst (λ o. Alike None o) (first_at r n d (omega arith))
    (subst (λ o. Alike o (shown_at (r ∷ n) d)) (quiet_at s m d (omega arith) (omega arith)) (h d))

same_count : (s r : Wordstring) (m n : Message) → AreAlike (s ∷ m) (r ∷ n) → word_count s ≡ word_count r
same_count s r m n h = elim (cases_lt (word_count s) (word_count r)) [
  | inl less ↦ absurd (not_shorter s r m n h less)
  | inr more ↦ elim (cases_lt (word_count r) (word_count s)) [
    | inl less ↦ absurd (not_shorter r s n m (λ d. alike_back (shown_at (s ∷ m) d) (shown_at (r ∷ n) d) (h d)) less)
    | inr same ↦ omega arith
  ]
]

firsts : (s r : Wordstring) (m n : Message) → AreAlike (s ∷ m) (r ∷ n) → (d : ℕ) → d < 20 * word_count s → d < 20 * word_count r
    → (label_value s ≡ label_value r) × (word_at s (d / 20) ≡ word_at r (d / 20))
firsts s r m n h d low high =
    subst (Alike (Some (shown_of (record { string = s; at = d })))) (first_at r n d high) (subst (λ o. Alike o (shown_at (r ∷ n) d)) (first_at s m d low) (h d))

made : ℕ → ℕ → List ℕ → Wordstring
made label ext words = record { label = label; ext = ext; words = words }

same_string : (s r : Wordstring) (m n : Message) → IsWordstring s → IsWordstring r → AreAlike (s ∷ m) (r ∷ n) → s ≡ r
unfolding made
same_string s r m n own other h =
    let count : word_count s ≡ word_count r = same_count s r m n h in
    let s_count : word_count s ≡ 1 + length s.words = refl in
    let r_count : word_count r ≡ 1 + length r.words = refl in
    let s_low : s.ext < 16 = own.ext in
    let r_low : r.ext < 16 = other.ext in
    let label : 16 * s.label + s.ext ≡ 16 * r.label + r.ext = (firsts s r m n h 0 (omega (arith, s_count)) (omega (arith, r_count))).0 in
    let labels : s.label ≡ r.label = omega (arith, label, s_low, r_low) in
    let exts : s.ext ≡ r.ext = omega (arith, label, s_low, r_low) in
    let words : s.words ≡ r.words =
    ext_get_or 0 s.words r.words (omega (arith, count, s_count, r_count)) (λ k low.
    let place : 20 * suc k / 20 ≡ suc k = omega arith in
    let both : word_at s (20 * suc k / 20) ≡ word_at r (20 * suc k / 20) =
    (firsts s r m n h (20 * suc k) (omega (arith, low, s_count)) (omega (arith, low, count, s_count))).1 in
    let at : word_at s (suc k) ≡ word_at r (suc k) = sym (ap (word_at s) place) ∙ both ∙ ap (word_at r) place in at) in
    ap (λ l. made l s.ext s.words) labels ∙ ap (λ e. made r.label e s.words) exts ∙ ap (made r.label r.ext) words

-- ---- and the others
tails : (s r : Wordstring) (m n : Message) → AreAlike (s ∷ m) (r ∷ n) → AreAlike m n
tails s r m n h d =
    let count : word_count s ≡ word_count r = same_count s r m n h in
    let e : ℕ = 20 * word_count s + 4 + d in
    let left : shown_at (s ∷ m) e ≡ shown_at m d =
    later_at s m e (omega arith) ∙ ap (shown_at m) (let w : e - (20 * word_count s + 4) ≡ d = omega arith in w) in
    let right : shown_at (r ∷ n) e ≡ shown_at n d =
    later_at r n e (omega (arith, count)) ∙ ap (shown_at n) (let w : e - (20 * word_count r + 4) ≡ d = omega (arith, count) in w) in
    subst (Alike (shown_at m d)) right (subst (λ o. Alike o (shown_at (r ∷ n) e)) left (h e))

some_bits : (s : Wordstring) → 0 < 20 * word_count s
some_bits s = let count : word_count s ≡ 1 + length s.words = refl in omega (arith, count)

pub same_message : (m n : Message) → AllByRecursion IsWordstring m → AllByRecursion IsWordstring n → AreAlike m n → m ≡ n
same_message [] [] a b h = refl
same_message [] (r ∷ n) a b h = absurd (subst (λ o. Alike None o) (first_at r n 0 (some_bits r)) (h 0))
same_message (s ∷ m) [] a b h = absurd (subst (λ o. Alike o None) (first_at s m 0 (some_bits s)) (h 0))
same_message (s ∷ m) (r ∷ n) a b h =
    ap (λ x. x ∷ m) (same_string s r m n a.0 b.0 h) ∙ ap (λ x. r ∷ x) (same_message m n a.1 b.1 (tails s r m n h))
