-- How many places the transmissions of each terminal stand apart, in the list so far.
use Rattle.std.proofs.Common.{◌≡◌, ◌⊎◌, ℕ, zero, suc, ◌+◌, ◌<◌, ◌≤◌, List, [], ◌∷◌, length, get_or, set, replicate, Some, inl, inr, refl, ap, sym, ◌∙◌, arith}
use Rattle.std.specs.Prelude.{slice_get}
use Rattle.std.proofs.lemmas.Bool.{cases_eq, cases_lt}
use Rattle.std.proofs.lemmas.List.{get_or-set_same, get_or-set_other, get_or-replicate, length-replicate}
use Rattle.std.proofs.lemmas.Option.{slice_get_within, get_or_from_slice_get}
use Rattle.bus_strings.specs.Messages.{Entry}
use Rattle.bus_vote.specs.inside.Walks.{IsSpaced}

-- of the transmissions before a place: by terminal, how many places they stand apart at least, and the place behind the last
pub record IsSpacing (list : List Entry) (at : ℕ) (gaps behind : List ℕ) : Type 0 where
  pub low : (terminal : ℕ) → get_or behind terminal 0 ≤ at
  pub last : (i : ℕ) (x : Entry) → i < at → slice_get list i ≡ Some x → i < get_or behind x.terminal 0
  pub spaced : (i j : ℕ) (x y : Entry) → i < j → j < at → slice_get list i ≡ Some x → slice_get list j ≡ Some y → x.terminal ≡ y.terminal
      → i + get_or gaps x.terminal 0 ≤ j

-- what stands at a place after one was set
set_at : (xs : List ℕ) (i j value : ℕ) → i < length xs → ((j ≡ i) × (get_or (set xs i value) j 0 ≡ value)) ⊎ ((j ≡ i → ⊥) × (get_or (set xs i value) j 0 ≡ get_or xs j 0))
set_at xs i j value within = elim (cases_eq j i) [
  | inl same ↦ inl (same, ap (λ k. get_or (set xs i value) k 0) same ∙ get_or-set_same xs i value 0 within)
  | inr other ↦ inr (other, get_or-set_other xs i j value 0 other)
]

past : (xs : List ℕ) (k : ℕ) → length xs ≤ k → get_or xs k 0 ≡ 0
past [] zero h = refl
past [] (suc k) h = refl
past (x ∷ xs) zero h = absurd (omega arith)
past (x ∷ xs) (suc k) h = past xs k (omega arith)

zeros : (n k : ℕ) → get_or (replicate {A = ℕ} n 0) k 0 ≡ 0
zeros n k = elim (cases_lt k n) [
  | inl within ↦ get_or-replicate n k 0 0 within
  | inr out ↦ past (replicate n 0) k (let l : length (replicate {A = ℕ} n 0) ≡ n = length-replicate n 0 in omega arith)
]

-- no transmission
pub none_spaced : (list : List Entry) (gaps : List ℕ) (n : ℕ) → IsSpacing list 0 gaps (replicate n 0)
none_spaced list gaps n = record {
  low = λ terminal. let e : get_or (replicate {A = ℕ} n 0) terminal 0 ≡ 0 = zeros n terminal in omega arith;
  last = λ i x before there. absurd (omega arith);
  spaced = λ i j x y less before there then alike. absurd (omega arith);
}

-- one transmission more
pub spacing_more : (list : List Entry) (at : ℕ) (x : Entry) (own gap : ℕ) (gaps behind : List ℕ) → slice_get list at ≡ Some x → own ≡ x.terminal
    → own < length gaps → own < length behind → gap ≤ get_or gaps own 0 → (0 < get_or behind own 0 → gap + get_or behind own 0 ≤ at + 1)
    → IsSpacing list at gaps behind → IsSpacing list (at + 1) (set gaps own gap) (set behind own (at + 1))
spacing_more list at x own gap gaps behind is names in_gaps in_behind less near s = record {
  low = λ terminal. elim (set_at behind own terminal (at + 1) in_behind) [
    | inl same ↦ let e : get_or (set behind own (at + 1)) terminal 0 ≡ at + 1 = same.1 in omega arith
    | inr other ↦
        let e : get_or (set behind own (at + 1)) terminal 0 ≡ get_or behind terminal 0 = other.1 in
        let l : get_or behind terminal 0 ≤ at = s.low terminal in
        omega arith
  ];
  last = λ i y before there. elim (set_at behind own y.terminal (at + 1) in_behind) [
    | inl same ↦ let e : get_or (set behind own (at + 1)) y.terminal 0 ≡ at + 1 = same.1 in omega arith
    | inr other ↦
        let e : get_or (set behind own (at + 1)) y.terminal 0 ≡ get_or behind y.terminal 0 = other.1 in
        elim (cases_eq i at) [
          | inl here ↦ absurd (other.0 (ap (λ (z : Entry). z.terminal) (same_entry i y x here there is) ∙ sym names))
          | inr apart ↦
              let earlier : i < at = omega arith in
              let l : i < get_or behind y.terminal 0 = s.last i y earlier there in
              omega arith
        ]
  ];
  spaced = λ i j y z less_j before there then alike. elim (set_at gaps own y.terminal gap in_gaps) [
    | inl same ↦
        let e : get_or (set gaps own gap) y.terminal 0 ≡ gap = same.1 in
        let alone : y.terminal ≡ own = same.0 in
        elim (cases_eq j at) [
          | inl here ↦
              let earlier : i < at = omega arith in
              let l : i < get_or behind y.terminal 0 = s.last i y earlier there in
              let b : get_or behind y.terminal 0 ≡ get_or behind own 0 = ap (λ t. get_or behind t 0) alone in
              let n : gap + get_or behind own 0 ≤ at + 1 = near (omega arith) in
              omega arith
          | inr apart ↦
              let earlier : j < at = omega arith in
              let l : i + get_or gaps y.terminal 0 ≤ j = s.spaced i j y z less_j earlier there then alike in
              let b : get_or gaps y.terminal 0 ≡ get_or gaps own 0 = ap (λ t. get_or gaps t 0) alone in
              omega arith
        ]
    | inr other ↦
        let e : get_or (set gaps own gap) y.terminal 0 ≡ get_or gaps y.terminal 0 = other.1 in
        elim (cases_eq j at) [
          | inl here ↦ absurd (other.0 (alike ∙ ap (λ (w : Entry). w.terminal) (same_entry j z x here then is) ∙ sym names))
          | inr apart ↦
              let earlier : j < at = omega arith in
              let l : i + get_or gaps y.terminal 0 ≤ j = s.spaced i j y z less_j earlier there then alike in
              omega arith
        ]
  ];
} where
  same_entry : (k : ℕ) (v w : Entry) → k ≡ at → slice_get list k ≡ Some v → slice_get list at ≡ Some w → v ≡ w
  same_entry k v w e a b = let both : Some v ≡ Some w = sym a ∙ ap (slice_get list) e ∙ b in cc

-- the whole list
pub spaced_by : (list : List Entry) (at terminal gap : ℕ) (gaps behind : List ℕ) → length list ≤ at → IsSpacing list at gaps behind → slice_get gaps terminal ≡ Some gap
    → IsSpaced terminal gap list
spaced_by list at terminal gap gaps behind whole s is i j x y less there then own alike =
    let within : j < length list = slice_get_within list j y then in
    let l : i + get_or gaps x.terminal 0 ≤ j = s.spaced i j x y less (omega arith) there then (own ∙ sym alike) in
    let g : get_or gaps x.terminal 0 ≡ gap = ap (λ t. get_or gaps t 0) own ∙ get_or_from_slice_get gaps terminal gap 0 is in
    omega arith
