-- Of a list in which no two transmissions overlap a dump shows none.
use Rattle.std.proofs.Common.{◌≡◌, ℕ, zero, suc, ◌+◌, ◌<◌, ◌≤◌, Bool, true, false, cond, ◌&&◌, ◌||◌, eqb, ltb, List, [], ◌∷◌, length, take, drop, Option, Some, None}
use Rattle.std.proofs.Common.{inl, inr, arith, sym, refl, ap, ◌∙◌}
use Rattle.std.specs.Prelude.{slice_get, remove}
use Rattle.std.specs.List.{AllByRecursion, filter, list_any, range_with_len}
use Rattle.std.specs.Option.{option_map_or}
use Rattle.std.proofs.lemmas.Bool.{cases_Bool, true≢false, lt-ltb, le-ltb, and_right}
use Rattle.std.proofs.lemmas.List.Sums.{length-filter}
use Rattle.bus_strings.specs.Members.{In}
use Rattle.bus_strings.proofs.MemberLaws.{of_each, at_in, in_append_cases, none_any}
use Rattle.bus_strings.specs.Messages.{Entry}
use Rattle.bus_strings.specs.Transmissions.{IsOrdered, end_of, garbled, overlaps}
use Rattle.bus_table.specs.Tables.{Table}
use Rattle.bus_dump.specs.declared.dump.Dump.{Dump}
use Rattle.bus_dump.specs.Laws.{ShowsNoOverlap}
use Rattle.bus_dump.specs.Seen.{holds, seen_at}
use Rattle.bus_dump.specs.Signals.{Bit, words}
use Rattle.bus_dump.proofs.LawLemmas.{garbled_seen, held_seen}
use Rattle.bus_dump.proofs.LiveLemmas.{absent, present, at_place, held_from, held_to}
use Rattle.bus_dump.proofs.WordLemmas.{few_words, word_unknown}

abbrev pub AreApart : Entry → Entry → Type 0
AreApart x y = overlaps x y ≡ false

-- ---- at most one span holds a bit time
pub both_overlap : (x y : Entry) (t : ℕ) → holds t x ≡ true → holds t y ≡ true → overlaps x y ≡ true
both_overlap x y t h k =
    let a : x.moment ≤ t = held_from t x h in
    let b : t < end_of x = held_to t x h in
    let c : y.moment ≤ t = held_from t y k in
    let d : t < end_of y = held_to t y k in
    let e : x.moment < end_of y = omega arith in
    let f : y.moment < end_of x = omega arith in
    rw (lt-ltb x.moment (end_of y) e, lt-ltb y.moment (end_of x) f) refl

none_held : (t : ℕ) (x : Entry) (list : List Entry) → holds t x ≡ true → AllByRecursion (AreApart x) list → filter (holds t) list ≡ []
none_held t x [] on apart = refl
none_held t x (y ∷ list) on apart = elim (cases_Bool (holds t y)) [
  | inl yes' ↦ absurd (true≢false (sym (both_overlap x y t on yes') ∙ apart.0))
  | inr no' ↦ ap (λ b. cond b (y ∷ filter (holds t) list) (filter (holds t) list)) no' ∙ none_held t x list on apart.1
]

few_held : (t : ℕ) (list : List Entry) → IsOrdered AreApart list → length (filter (holds t) list) ≤ 1
few_held t [] apart = omega arith
few_held t (x ∷ list) apart = elim (cases_Bool (holds t x)) [
  | inl on ↦
      let one : length (filter (holds t) (x ∷ list)) ≡ 1 =
      ap (λ b. length (cond b (x ∷ filter (holds t) list) (filter (holds t) list))) on
      ∙ ap (λ (l : List Entry). length (x ∷ l)) (none_held t x list on apart.0) in
      omega (arith, one)
  | inr off ↦
      let same : length (filter (holds t) (x ∷ list)) ≡ length (filter (holds t) list) =
      ap (λ b. length (cond b (x ∷ filter (holds t) list) (filter (holds t) list))) off in
      omega (arith, same, few_held t list apart.1)
]

pub few_seen : (list : List Entry) (t : ℕ) → IsOrdered AreApart list → length (seen_at list t) ≤ 1
few_seen list t apart = omega (arith, held_seen list t, length-filter (holds t) list, few_held t list apart)

-- ---- none is garbled
pub before_it : (R : Entry → Entry → Type 0) (list : List Entry) (k : ℕ) (x y : Entry) → IsOrdered R list → In x (take k list) → slice_get list k ≡ Some y
    → R x y
before_it R [] k x y o i e = absurd (let w : None ≡ Some y = e in cc)
before_it R (z ∷ list) zero x y o i e = absurd i
before_it R (z ∷ list) (suc k) x y o (inl same) e = rw same (of_each (R z) list o.0 y (at_in list k y e))
before_it R (z ∷ list) (suc k) x y o (inr i) e = before_it R list k x y o.1 i e

behind_it : (R : Entry → Entry → Type 0) (list : List Entry) (k : ℕ) (x y : Entry) → IsOrdered R list → slice_get list k ≡ Some x
    → In y (drop (suc k) list) → R x y
behind_it R [] k x y o e i = absurd (let w : None ≡ Some x = e in cc)
behind_it R (z ∷ list) zero x y o e i = let same : z ≡ x = (let w : Some z ≡ Some x = e in cc) in rw (sym same) (of_each (R z) list o.0 y i)
behind_it R (z ∷ list) (suc k) x y o e i = behind_it R list k x y o.1 e i

swapped : (a b : Bool) → (a && b) ≡ (b && a)
swapped true true = refl
swapped true false = refl
swapped false true = refl
swapped false false = refl

apart_both : (x y : Entry) → AreApart x y → AreApart y x
apart_both x y h = swapped (ltb y.moment (end_of x)) (ltb x.moment (end_of y)) ∙ h

pub none_garbled : (list : List Entry) (k : ℕ) → IsOrdered AreApart list → garbled list k ≡ false
none_garbled list k apart = elim (at_place list k) [
  | absent e ↦ ap (λ o. option_map_or (λ x. list_any (overlaps x) (remove list k)) o false) e
  | present x e ↦
      ap (λ o. option_map_or (λ x. list_any (overlaps x) (remove list k)) o false) e
      ∙ none_any (overlaps x) (remove list k) (λ y i. elim (in_append_cases (take k list) (drop (suc k) list) y i) [
        | inl before ↦ apart_both y x (before_it AreApart list k y x apart before e)
        | inr behind ↦ behind_it AreApart list k x y apart e behind
      ])
]

none_along : (p : ℕ → Bool) (a n : ℕ) → ((k : ℕ) → p k ≡ false) → list_any p (range_with_len a n) ≡ false
none_along p a zero h = refl
none_along p a (suc n) h = ap (λ b. b || list_any p (range_with_len (a + 1) n)) (h a) ∙ none_along p (a + 1) n h

clear_garbled : (list : List Entry) (t n : ℕ) → IsOrdered AreApart list
    → list_any (λ k. option_map_or (λ (x : Entry). holds t x && eqb x.terminal n && garbled list k) (slice_get list k) false) (range_with_len 0 (length list))
    ≡ false
clear_garbled list t n apart =
    none_along (λ k. option_map_or (λ (x : Entry). holds t x && eqb x.terminal n && garbled list k) (slice_get list k) false) 0 (length list) (λ k. elim (at_place list k) [
      | absent e ↦ ap (λ o. option_map_or (λ (x : Entry). holds t x && eqb x.terminal n && garbled list k) o false) e
      | present x e ↦
          ap (λ o. option_map_or (λ (x : Entry). holds t x && eqb x.terminal n && garbled list k) o false) e
          ∙ ap (λ b. holds t x && eqb x.terminal n && b) (none_garbled list k apart) ∙ and_right (holds t x && eqb x.terminal n) false refl
    ])

-- ---- the whole
pub clear_shows_none : (dump : Dump) (breach : Option ℕ) (table : Table) (list : List Entry) (t : ℕ) → IsOrdered AreApart list
    → ShowsNoOverlap dump breach table list t
clear_shows_none dump breach table list t apart =
    let few : length (seen_at list t) ≤ 1 = few_seen list t apart in
    record {
      overlap = ap Bit (le-ltb 1 (length (seen_at list t)) few);
      garbled = λ n. ap Bit (garbled_seen list t n ∙ clear_garbled list t n apart);
      word = λ h.
          let many : 1 < length (words (seen_at list t)) = (word_unknown (words (seen_at list t)) (length (words (seen_at list t))) refl).0 h in
          omega (arith, many, few, few_words (seen_at list t));
    }
