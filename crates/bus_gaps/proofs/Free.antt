-- The order by shortest messages asks least.
use Rattle.std.specs.Prelude.{nat_lt, nat_le, ◌==◌}
use Rattle.std.specs.List.{sum_by}
use Rattle.std.proofs.Common.{arith, ◌≡◌, ℕ, suc, ◌+◌, ◌*◌, ◌<◌, ◌≤◌, Bool, true, false, cond, List, [], ◌∷◌, map, length, inl, inr}
use Rattle.std.proofs.Common.{refl, sym, ◌∙◌, ap, subst}
use Rattle.std.proofs.lemmas.Bool.{cases_lt}
use Rattle.std.proofs.lemmas.Bool.Decides.{nat_tests}
use Rattle.std.proofs.lemmas.List.Sorted.{length_permutation, sum_by-IsPermutation}
use Rattle.std.proofs.lemmas.List.Sums.{sum_by-cons}
use Rattle.bus_bounds.specs.Bounds.{Bounds, most_clocks}
use Rattle.bus_bounds.proofs.BoundLaws.{short_more}
use Rattle.bus_gaps.specs.declared.speaker.Speaker.{Speaker}
use Rattle.bus_gaps.specs.Gaps.{AreTaken, Takes, first_low, least_time, most_time, next_low}
use Rattle.bus_gaps.specs.Designs.{delay_among, spoken}
use Rattle.bus_gaps.specs.Free.{FreeOrderIsBest, by_shortest, insert}
use Rattle.bus_gaps.proofs.Chains.{most_time_more}

least_time_more : (bounds : Bounds) (a b : ℕ) → bounds.clocks ≤ most_clocks → a ≤ b → least_time bounds a ≤ least_time bounds b
least_time_more bounds a b h l = short_more bounds (500 * a) (500 * b) h (omega arith)

-- a gap behind another is greater
ascends : (bounds : Bounds) (sg x y : ℕ) → bounds.clocks ≤ most_clocks → next_low bounds sg x ≤ least_time bounds y → x ≤ y
ascends bounds sg x y within h =
    elim (cases_lt x y) [
      | inl l ↦ omega (arith, l)
      | inr r ↦ absurd (let m = least_time_more bounds y x within r in let b : least_time bounds x ≤ most_time bounds x = omega arith in
          omega (arith, m, b, h))
    ]

-- a sender whose shortest message is longer may have the gap too; and any sender a greater one, where it outlasts as well
longer_takes : (bounds : Bounds) (sg : ℕ) (alone : Bool) (a b : Speaker) (low x : ℕ) → bounds.clocks ≤ most_clocks → a.shortest ≤ b.shortest
    → Takes bounds sg alone a low x → Takes bounds sg alone b low x
longer_takes bounds sg alone a b low x within l t = record {
  least = t.least;
  most = t.most;
  lasts = t.lasts;
  outlasts = (let m = least_time_more bounds a.shortest b.shortest within l in let o = t.outlasts in omega (arith, m, o));
  waits = t.waits;
}

later_takes : (bounds : Bounds) (sg : ℕ) (alone : Bool) (a b : Speaker) (low high x y : ℕ) → bounds.clocks ≤ most_clocks → x ≤ y
    → Takes bounds sg alone a low x → Takes bounds sg alone b high y → Takes bounds sg alone a high y
later_takes bounds sg alone a b low high x y within l t u = record {
  least = u.least;
  most = u.most;
  lasts = u.lasts;
  outlasts = (let m = most_time_more bounds x y within l in let o = t.outlasts in omega (arith, m, o));
  waits = u.waits;
}

module _ (bounds : Bounds) (sg : ℕ) (alone : Bool) (within : bounds.clocks ≤ most_clocks) where
  insert_taken : (low : ℕ) (a : Speaker) (senders : List Speaker) (gaps : List ℕ) → AreTaken bounds sg alone low (a ∷ senders) gaps
      → AreTaken bounds sg alone low (insert a senders) gaps
  insert_taken low a [] gaps t = t
  insert_taken low a (b ∷ senders) [] t = absurd t
  insert_taken low a (b ∷ senders) (x ∷ []) t = absurd t.1
  insert_taken low a (b ∷ senders) (x ∷ (y ∷ gaps)) t =
      elim (nat_lt a.shortest b.shortest) as (λ w. nat_lt a.shortest b.shortest ≡ w
      → AreTaken bounds sg alone low (cond w (b ∷ insert a senders) (a ∷ (b ∷ senders))) (x ∷ (y ∷ gaps))) [
        | true ↦ λ e.
            (let less : a.shortest ≤ b.shortest = grind (arith, nat_tests, e) in
            let up : x ≤ y = ascends bounds sg x y within t.1.0.lasts in (
              longer_takes bounds sg alone a b low x within less t.0,
              insert_taken (next_low bounds sg x) a senders (y ∷ gaps)
                  (later_takes bounds sg alone a b low (next_low bounds sg x) x y within up t.0 t.1.0, t.1.1),
            ))
        | false ↦ λ e. t
      ] refl

  sort_taken : (low : ℕ) (order : List Speaker) (gaps : List ℕ) → AreTaken bounds sg alone low order gaps
      → AreTaken bounds sg alone low (by_shortest order) gaps
  sort_taken low [] gaps t = t
  sort_taken low (a ∷ order) [] t = absurd t
  sort_taken low (a ∷ order) (x ∷ gaps) t =
      insert_taken low a (by_shortest order) (x ∷ gaps) (t.0, sort_taken (next_low bounds sg x) order gaps t.1)

  -- only shortest messages count
  same_taken : (low : ℕ) (order other : List Speaker) (gaps : List ℕ) → map (λ (a : Speaker). a.shortest) order ≡ map (λ (a : Speaker). a.shortest) other
      → AreTaken bounds sg alone low order gaps → AreTaken bounds sg alone low other gaps
  same_taken low [] [] gaps e t = t
  same_taken low [] (b ∷ other) gaps e t = absurd (cc)
  same_taken low (a ∷ order) [] gaps e t = absurd (cc)
  same_taken low (a ∷ order) (b ∷ other) [] e t = absurd t
  same_taken low (a ∷ order) (b ∷ other) (x ∷ gaps) e t =
      let first : a.shortest ≡ b.shortest = head_same a.shortest b.shortest (map (λ (s : Speaker). s.shortest) order) (map (λ (s : Speaker). s.shortest) other) e in
      let rest : map (λ (s : Speaker). s.shortest) order ≡ map (λ (s : Speaker). s.shortest) other =
      tail_same a.shortest b.shortest (map (λ (s : Speaker). s.shortest) order) (map (λ (s : Speaker). s.shortest) other) e in (
        longer_takes bounds sg alone a b low x within (omega (arith, first)) t.0,
        same_taken (next_low bounds sg x) order other gaps rest t.1,
      )
    where
      head_same : (m n : ℕ) (ms ns : List ℕ) → (m ∷ ms) ≡ (n ∷ ns) → m ≡ n
      head_same m n ms ns e = cc

      tail_same : (m n : ℕ) (ms ns : List ℕ) → (m ∷ ms) ≡ (n ∷ ns) → ms ≡ ns
      tail_same m n ms ns e = cc

-- ---- sorted lists of the same senders

sum_insert : (f : Speaker → ℕ) (a : Speaker) (senders : List Speaker) → sum_by f (insert a senders) ≡ f a + sum_by f senders
sum_insert f a [] = sum_by-cons f a []
sum_insert f a (b ∷ senders) =
    elim (nat_lt a.shortest b.shortest) as (λ w. sum_by f (cond w (b ∷ insert a senders) (a ∷ (b ∷ senders))) ≡ f a + sum_by f (b ∷ senders)) [
      | true ↦
          (let rest = sum_insert f a senders in
          let one = sum_by-cons f b (insert a senders) in
          let two = sum_by-cons f b senders in
          omega (arith, rest, one, two))
      | false ↦ sum_by-cons f a (b ∷ senders)
    ]

pub sum_sort : (f : Speaker → ℕ) (senders : List Speaker) → sum_by f (by_shortest senders) ≡ sum_by f senders
sum_sort f [] = refl
sum_sort f (a ∷ senders) =
    let rest = sum_sort f senders in
    let one = sum_insert f a (by_shortest senders) in
    let two = sum_by-cons f a senders in
    omega (arith, rest, one, two)

length_insert : (a : Speaker) (senders : List Speaker) → length (insert a senders) ≡ suc (length senders)
length_insert a [] = refl
length_insert a (b ∷ senders) =
    elim (nat_lt a.shortest b.shortest) as (λ w. length (cond w (b ∷ insert a senders) (a ∷ (b ∷ senders))) ≡ suc (suc (length senders))) [
      | true ↦ ap suc (length_insert a senders)
      | false ↦ refl
    ]

length_sort : (senders : List Speaker) → length (by_shortest senders) ≡ length senders
length_sort [] = refl
length_sort (a ∷ senders) = length_insert a (by_shortest senders) ∙ ap suc (length_sort senders)

-- each is no shorter than those behind it
Falls : List Speaker → Type 0
Falls [] = Unit {0}
Falls (a ∷ []) = Unit {0}
Falls (a ∷ (b ∷ senders)) = (b.shortest ≤ a.shortest) × Falls (b ∷ senders)

falls_insert : (a : Speaker) (senders : List Speaker) → Falls senders → Falls (insert a senders)
unfolding Falls
falls_insert a [] h = tt
falls_insert a (b ∷ []) h =
    elim (nat_lt a.shortest b.shortest) as (λ w. nat_lt a.shortest b.shortest ≡ w → Falls (cond w (b ∷ (a ∷ [])) (a ∷ (b ∷ [])))) [
      | true ↦ λ e. (grind (arith, nat_tests, e), tt)
      | false ↦ λ e. (grind (arith, nat_tests, e), tt)
    ] refl
falls_insert a (b ∷ (c ∷ senders)) h =
    elim (nat_lt a.shortest b.shortest) as (λ w. nat_lt a.shortest b.shortest ≡ w
    → Falls (cond w (b ∷ insert a (c ∷ senders)) (a ∷ (b ∷ (c ∷ senders))))) [
      | true ↦ λ e.
          (elim (nat_lt a.shortest c.shortest) as (λ v. Falls (cond v (c ∷ insert a senders) (a ∷ (c ∷ senders)))
          → Falls (b ∷ cond v (c ∷ insert a senders) (a ∷ (c ∷ senders)))) [
            | true ↦ λ k. (h.0, k)
            | false ↦ λ k. (grind (arith, nat_tests, e), k)
          ] (falls_insert a (c ∷ senders) h.1))
      | false ↦ λ e. (grind (arith, nat_tests, e), h)
    ] refl

falls_sort : (senders : List Speaker) → Falls (by_shortest senders)
unfolding Falls
falls_sort [] = tt
falls_sort (a ∷ senders) = falls_insert a (by_shortest senders) (falls_sort senders)

-- how many are no shorter than so many bit times
reaches : ℕ → Speaker → ℕ
reaches n a = cond (nat_le n a.shortest) 1 0

none_reach : (n : ℕ) (a : Speaker) (senders : List Speaker) → a.shortest < n → Falls (a ∷ senders) → sum_by (reaches n) (a ∷ senders) ≡ 0
unfolding Falls reaches
none_reach n a [] l h =
    let e : nat_le n a.shortest ≡ false = grind (arith, nat_tests, l) in
    sum_by-cons (reaches n) a [] ∙ ap (λ b. cond b 1 0 + 0) e
none_reach n a (b ∷ senders) l h =
    let e : nat_le n a.shortest ≡ false = grind (arith, nat_tests, l) in
    let less : b.shortest < n = (let k = h.0 in omega (arith, k, l)) in
    let rest = none_reach n b senders less h.1 in
    let one = sum_by-cons (reaches n) a (b ∷ senders) in
    let zero : reaches n a ≡ 0 = ap (λ b. cond b 1 0) e in
    omega (arith, rest, one, zero)

first_reaches : (a : Speaker) (senders : List Speaker) → 1 ≤ sum_by (reaches a.shortest) (a ∷ senders)
unfolding reaches
first_reaches a senders =
    let e : nat_le a.shortest a.shortest ≡ true = grind (arith, nat_tests) in
    let one = sum_by-cons (reaches a.shortest) a senders in
    let is : reaches a.shortest a ≡ 1 = ap (λ b. cond b 1 0) e in
    omega (arith, one, is)

falls_tail : (a : Speaker) (senders : List Speaker) → Falls (a ∷ senders) → Falls senders
unfolding Falls
falls_tail a [] h = tt
falls_tail a (b ∷ senders) h = h.1

no_less : (a b : Speaker) (cs bs : List Speaker) → Falls (a ∷ cs) → Falls (b ∷ bs)
    → ((n : ℕ) → sum_by (reaches n) (a ∷ cs) ≡ sum_by (reaches n) (b ∷ bs)) → b.shortest ≤ a.shortest
no_less a b cs bs fa fb same =
    elim (cases_lt a.shortest b.shortest) [
      | inl less ↦ absurd (let none = none_reach b.shortest a cs less fa in let some = first_reaches b bs in let e = same b.shortest in
          omega (arith, none, some, e))
      | inr more ↦ more
    ]

same_sorted : (cs bs : List Speaker) → Falls cs → Falls bs → ((n : ℕ) → sum_by (reaches n) cs ≡ sum_by (reaches n) bs)
    → map (λ (a : Speaker). a.shortest) cs ≡ map (λ (a : Speaker). a.shortest) bs
unfolding reaches
same_sorted [] [] fa fb same = refl
same_sorted [] (b ∷ bs) fa fb same = absurd (let e = same b.shortest in let some = first_reaches b bs in let none : sum_by (reaches b.shortest) [] ≡ 0 = refl in omega (arith, e, some, none))
same_sorted (a ∷ cs) [] fa fb same = absurd (let e = same a.shortest in let some = first_reaches a cs in let none : sum_by (reaches a.shortest) [] ≡ 0 = refl in omega (arith, e, some, none))
same_sorted (a ∷ cs) (b ∷ bs) fa fb same =
    let one = no_less a b cs bs fa fb same in
    let two = no_less b a bs cs fb fa (λ n. sym (same n)) in
    let first : a.shortest ≡ b.shortest = omega (arith, one, two) in
    let rest = same_sorted cs bs (falls_tail a cs fa) (falls_tail b bs fb)
    (λ n. let e = same n in
    let left = sum_by-cons (reaches n) a cs in
    let right = sum_by-cons (reaches n) b bs in
    let head : reaches n a ≡ reaches n b = ap (λ m. cond (nat_le n m) 1 0) first in
    omega (arith, e, left, right, head)) in
    ap (λ n. n ∷ map (λ (s : Speaker). s.shortest) cs) first ∙ ap (λ l. b.shortest ∷ l) rest

-- ---- the longest cycle

own_time : Bounds → Speaker → ℕ
own_time bounds a = most_time bounds a.longest

gap_times : Bounds → ℕ → List ℕ → ℕ
gap_times bounds delay [] = 0
gap_times bounds delay (x ∷ gaps) = delay + most_time bounds x + gap_times bounds delay gaps

spoken_is : (bounds : Bounds) (sg : ℕ) (alone : Bool) (low delay : ℕ) (senders : List Speaker) (gaps : List ℕ)
    → AreTaken bounds sg alone low senders gaps → spoken bounds delay senders gaps ≡ gap_times bounds delay gaps + sum_by (own_time bounds) senders
unfolding gap_times own_time
spoken_is bounds sg alone low delay [] [] t = refl
spoken_is bounds sg alone low delay [] (x ∷ gaps) t = absurd t
spoken_is bounds sg alone low delay (a ∷ senders) [] t = absurd t
spoken_is bounds sg alone low delay (a ∷ senders) (x ∷ gaps) t =
    let rest = spoken_is bounds sg alone (next_low bounds sg x) delay senders gaps t.1 in
    let one = sum_by-cons (own_time bounds) a senders in
    omega (arith, rest, one)

-- ---- all together

pub free_order_is_best : FreeOrderIsBest
free_order_is_best bounds senders order sg gaps within perm roomy =
    let count : length order ≡ length senders = length_permutation senders order perm in
    let sorted : length (by_shortest senders) ≡ length senders = length_sort senders in
    let lone : (length order == 1) ≡ (length (by_shortest senders) == 1) = ap (λ n. n == 1) (count ∙ sym sorted) in
    let alone : Bool = length order == 1 in
    let low : ℕ = first_low bounds sg alone in
    let falls = same_sorted (by_shortest order) (by_shortest senders) (falls_sort order) (falls_sort senders)
    (λ n. sum_sort (reaches n) order ∙ sum_by-IsPermutation (reaches n) senders order perm ∙ sym (sum_sort (reaches n) senders)) in
    let taken : AreTaken bounds sg alone low (by_shortest senders) gaps =
    same_taken bounds sg alone within low (by_shortest order) (by_shortest senders) gaps falls (sort_taken bounds sg alone within low order gaps roomy.taken) in
    let before = spoken_is bounds sg alone low (delay_among bounds (length order)) order gaps roomy.taken in
    let after = spoken_is bounds sg alone low (delay_among bounds (length order)) (by_shortest senders) gaps taken in
    let speak : sum_by (own_time bounds) (by_shortest senders) ≡ sum_by (own_time bounds) order =
    sum_sort (own_time bounds) senders ∙ sym (sum_by-IsPermutation (own_time bounds) senders order perm) in
    let delays : spoken bounds (delay_among bounds (length (by_shortest senders))) (by_shortest senders) gaps
    ≡ spoken bounds (delay_among bounds (length order)) (by_shortest senders) gaps =
    ap (λ n. spoken bounds (delay_among bounds n) (by_shortest senders) gaps) (sorted ∙ sym count) in (
      record {
        least = roomy.least;
        most = roomy.most;
        whole = roomy.whole;
        taken = subst (λ b. AreTaken bounds sg b (first_low bounds sg b) (by_shortest senders) gaps) lone taken;
      },
      omega (arith, before, after, speak, delays),
    )
