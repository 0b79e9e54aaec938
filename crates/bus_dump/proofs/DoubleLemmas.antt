-- Which entry is doubled first, entry by entry.
use Rattle.std.proofs.Common.{◌≡◌, ℕ, suc, ◌+◌, ◌-◌, ◌<◌, ◌≤◌, Bool, true, false, cond, ◌&&◌, ◌||◌, ltb, eqb, max, List, [], ◌∷◌, length, take, get_or, set, Some, None}
use Rattle.std.proofs.Common.{inl, inr, arith, sym, refl, ap, ◌∙◌}
use Rattle.std.specs.Prelude.{slice_get}
use Rattle.std.specs.List.{find, list_any, range_with_len}
use Rattle.std.specs.Option.{option_or}
use Rattle.std.proofs.lemmas.Bool.{cases_eq, cases_lt, lt-ltb, le-ltb, eq-eqb, ne_eqb}
use Rattle.std.proofs.lemmas.List.{get_or-set_same, get_or-set_other}
use Rattle.std.proofs.lemmas.List.Folds.{list_any_more, find-append}
use Rattle.std.proofs.lemmas.Option.{slice_get_within, get_or_from_slice_get}
use Rattle.bus_strings.specs.Messages.{Entry}
use Rattle.bus_strings.specs.Transmissions.{end_of}
use Rattle.bus_strings.proofs.ListLaws.{range_push}
use Rattle.bus_strings.proofs.TestLaws.{or_false}
use Rattle.bus_dump.specs.Doubled.{is_doubled, runs_into}
use Rattle.bus_dump.proofs.RangeLemmas.{range_join}

-- whether an entry of terminal n ends behind moment m
abbrev pub ends_behind : ℕ → ℕ → Entry → Bool
ends_behind n m x = eqb x.terminal n && ltb m (end_of x)

-- for each terminal is kept until when its transmissions last
abbrev pub KeepsEnds : List Entry → List ℕ → ℕ → Type 0
KeepsEnds list ends k = (n m : ℕ) → n ≤ 128 → ltb m (get_or ends n 0) ≡ list_any (ends_behind n m) (take k list)

ltb_max : (m a b : ℕ) → ltb m (max a b) ≡ (ltb m b || ltb m a)
ltb_max m a b =
    elim (cases_lt m b) [
      | inl low ↦ rw (lt-ltb m b low, lt-ltb m (max a b) (let w : m < max a b = omega arith in w)) refl
      | inr high ↦ elim (cases_lt m a) [
        | inl low ↦ rw (le-ltb m b high, lt-ltb m a low, lt-ltb m (max a b) (let w : m < max a b = omega arith in w)) refl
        | inr over ↦ rw (le-ltb m b high, le-ltb m a over, le-ltb m (max a b) (let w : max a b ≤ m = omega arith in w)) refl
      ]
    ]

pub ends_more : (list : List Entry) (ends : List ℕ) (k terminal end : ℕ) (x : Entry) → KeepsEnds list ends k → length ends ≡ 129 → terminal ≤ 128
    → slice_get list k ≡ Some x → x.terminal ≡ terminal → end ≡ end_of x → KeepsEnds list (set ends terminal (max end (get_or ends terminal 0))) (k + 1)
ends_more list ends k terminal end x keeps long low at own is n m h =
    let within : k < length list = slice_get_within list k x at in
    let more : list_any (ends_behind n m) (take (k + 1) list) ≡ (list_any (ends_behind n m) (take k list) || ends_behind n m x) =
    list_any_more (ends_behind n m) list k x within ∙ ap (λ y. list_any (ends_behind n m) (take k list) || ends_behind n m y) (get_or_from_slice_get list k x x at) in
    elim (cases_eq n terminal) [
      | inl same ↦
          let test : ends_behind n m x ≡ ltb m end = ap (λ b. b && ltb m (end_of x)) (eq-eqb x.terminal n (own ∙ sym same)) ∙ ap (ltb m) (sym is) in
          ap (λ j. ltb m (get_or (set ends terminal (max end (get_or ends terminal 0))) j 0)) same
          ∙ ap (ltb m) (get_or-set_same ends terminal (max end (get_or ends terminal 0)) 0 (omega arith))
          ∙ ltb_max m end (get_or ends terminal 0)
          ∙ ap (λ b. b || ltb m end) (ap (λ j. ltb m (get_or ends j 0)) (sym same) ∙ keeps n m h)
          ∙ ap (λ b. list_any (ends_behind n m) (take k list) || b) (sym test)
          ∙ sym more
      | inr other ↦
          let test : ends_behind n m x ≡ false = ap (λ b. b && ltb m (end_of x)) (ne_eqb x.terminal n (λ e. other (sym e ∙ own))) in
          ap (ltb m) (get_or-set_other ends terminal n (max end (get_or ends terminal 0)) 0 other)
          ∙ keeps n m h
          ∙ sym (or_false (list_any (ends_behind n m) (take k list)))
          ∙ ap (λ b. list_any (ends_behind n m) (take k list) || b) (sym test)
          ∙ sym more
    ]

-- whether entry k is doubled, by what is kept
same_test : (y : Entry) (xs : List Entry) → list_any (ends_behind y.terminal y.moment) xs ≡ list_any (runs_into y) xs
same_test y xs = refl

pub doubled_is : (list : List Entry) (ends : List ℕ) (k terminal moment : ℕ) (x : Entry) → KeepsEnds list ends k → terminal ≤ 128 → slice_get list k ≡ Some x
    → x.terminal ≡ terminal → x.moment ≡ moment → is_doubled list k ≡ ltb moment (get_or ends terminal 0)
doubled_is list ends k terminal moment x keeps low at own when =
    is_at list k x at ∙ sym (same_test x (take k list)) ∙ sym (ap (λ m. ltb m (get_or ends terminal 0)) (sym when) ∙ ap (λ n. ltb x.moment (get_or ends n 0)) (sym own)
    ∙ keeps x.terminal x.moment (omega arith))
  where
    is_at : (list : List Entry) (k : ℕ) (y : Entry) → slice_get list k ≡ Some y → is_doubled list k ≡ list_any (runs_into y) (take k list)
    is_at list k y e = rw e refl

-- the first place that passes a test
pub none_passes : (p : ℕ → Bool) (k : ℕ) → find p (range_with_len 0 k) ≡ None → p k ≡ false → find p (range_with_len 0 (k + 1)) ≡ None
none_passes p k none not =
    let one : k + 1 ≡ suc k = omega arith in
    let zero_is : 0 + k ≡ k = omega arith in
    ap (λ n. find p (range_with_len 0 n)) one ∙ ap (find p) (range_push 0 k) ∙ find-append p (range_with_len 0 k) ((0 + k) ∷ [])
    ∙ ap (λ o. option_or o (find p ((0 + k) ∷ []))) none ∙ ap (λ n. find p (n ∷ [])) zero_is ∙ ap (λ b. cond b (Some k) None) not

pub first_passes : (p : ℕ → Bool) (k n : ℕ) → k < n → find p (range_with_len 0 k) ≡ None → p k ≡ true → find p (range_with_len 0 n) ≡ Some k
first_passes p k n h none passes =
    let m : ℕ = n - k - 1 in
    let parts : n ≡ k + suc m = omega arith in
    let zero_is : 0 + k ≡ k = omega arith in
    ap (λ j. find p (range_with_len 0 j)) parts ∙ ap (find p) (range_join 0 k (suc m))
    ∙ find-append p (range_with_len 0 k) (range_with_len (0 + k) (suc m))
    ∙ ap (λ o. option_or o (find p (range_with_len (0 + k) (suc m)))) none
    ∙ ap (λ a. find p (range_with_len a (suc m))) zero_is
    ∙ ap (λ b. cond b (Some k) (find p (range_with_len (k + 1) m))) passes
