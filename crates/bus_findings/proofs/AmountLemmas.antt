-- What amounts, the greatest of a list, and first and greatest numbers that pass a test are.
use Rattle.std.specs.Prelude.{max, suc, zero}
use Rattle.std.specs.List.{find, range_with_len}
use Rattle.std.proofs.Common.{◌≡◌, ℕ, ◌+◌, ◌<◌, ◌≤◌, Bool, true, false, cond, List, [], ◌∷◌, ◌++◌, Some, None, inl, inr, arith, refl, ap, sym, ◌∙◌}
use Rattle.std.proofs.lemmas.Bool.{cases_lt, cases_Bool}
use Rattle.bus_strings.specs.Members.{In}
use Rattle.bus_findings.specs.Amounts.{IsAmount, greatest, greatest_to, first_below}

-- there is one amount
pub amounts_agree : (P : ℕ → Type 0) (n m : ℕ) → IsAmount P n → IsAmount P m → n ≡ m
amounts_agree P n m a b =
    elim (cases_lt n m) [
      | inl less ↦ (let h : m ≤ n = a.most m (omega arith) (b.so (omega arith)) in absurd (omega arith))
      | inr more ↦ elim (cases_lt m n) [
        | inl less ↦ (let h : n ≤ m = b.most n (omega arith) (a.so (omega arith)) in absurd (omega arith))
        | inr same ↦ omega arith
      ]
    ]

-- ---- the greatest of a list

pub greatest_over : {X : Type 0} (f : X → ℕ) → (xs : List X) (x : X) → In x xs → f x ≤ greatest f xs
greatest_over f [] x i = absurd i
greatest_over f (y ∷ xs) x (inl same) = let e : f x ≡ f y = ap f same in omega arith
greatest_over f (y ∷ xs) x (inr i) = let h : f x ≤ greatest f xs = greatest_over f xs x i in omega arith

pub greatest_under : {X : Type 0} (f : X → ℕ) (n : ℕ) → (xs : List X) → ((x : X) → In x xs → f x ≤ n) → greatest f xs ≤ n
greatest_under f n [] h = omega arith
greatest_under f n (y ∷ xs) h =
    let here : f y ≤ n = h y (inl refl) in
    let rest : greatest f xs ≤ n = greatest_under f n xs (λ x i. h x (inr i)) in
    omega arith

pub greatest_at : {X : Type 0} (f : X → ℕ) → (xs : List X) → 0 < greatest f xs → (x : X) × In x xs × (greatest f xs ≡ f x)
greatest_at f [] h = absurd (omega arith)
greatest_at f (y ∷ xs) h =
    elim (cases_lt (f y) (greatest f xs)) [
      | inl less ↦ (let w = greatest_at f xs (omega arith) in let e : greatest f xs ≡ f w.0 = w.2 in (w.0, inr w.1, omega arith))
      | inr more ↦ (y, inl refl, omega arith)
    ]

pub greatest_push : {X : Type 0} (f : X → ℕ) → (xs : List X) (x : X) → greatest f (xs ++ x ∷ []) ≡ max (greatest f xs) (f x)
greatest_push f [] x = omega arith
greatest_push f (y ∷ xs) x = let h : greatest f (xs ++ x ∷ []) ≡ max (greatest f xs) (f x) = greatest_push f xs x in omega arith

-- ---- the greatest number that passes a test

pub greatest_to_most : (test : ℕ → Bool) → (n : ℕ) → greatest_to test n ≤ n
unfolding greatest_to
greatest_to_most test zero = omega arith
greatest_to_most test (suc n) =
    let h : greatest_to test n ≤ n = greatest_to_most test n in
    elim (test (suc n)) as (λ b. cond b (suc n) (greatest_to test n) ≤ suc n) [ true ↦ omega arith | false ↦ omega arith ]

pub greatest_to_over : (test : ℕ → Bool) → (n m : ℕ) → test m ≡ true → m ≤ n → m ≤ greatest_to test n
unfolding greatest_to
greatest_to_over test zero m t h = omega arith
greatest_to_over test (suc n) m t h =
    elim (cases_Bool (test (suc n))) [
      | inl holds ↦ rw holds (omega arith)
      | inr fails ↦ elim (cases_lt m (suc n)) [
        | inl less ↦ (let r : m ≤ greatest_to test n = greatest_to_over test n m t (omega arith) in rw fails r)
        | inr same ↦ (let e : m ≡ suc n = omega arith in let y : test (suc n) ≡ true = sym (ap test e) ∙ t in absurd (cc (y, fails)))
      ]
    ]

pub greatest_to_test : (test : ℕ → Bool) → (n : ℕ) → 0 < greatest_to test n → test (greatest_to test n) ≡ true
unfolding greatest_to
greatest_to_test test zero h = absurd (omega arith)
greatest_to_test test (suc n) h =
    elim (cases_Bool (test (suc n))) [
      | inl holds ↦ rw holds holds
      | inr fails ↦
          let e : cond (test (suc n)) (suc n) (greatest_to test n) ≡ greatest_to test n = ap (λ b. cond b (suc n) (greatest_to test n)) fails in
          let some : 0 < greatest_to test n = omega (arith, h, e) in
          ap test e ∙ greatest_to_test test n some
    ]

-- ---- the first number that passes a test

pub in_range : (n a k : ℕ) → a ≤ k → k < a + n → In k (range_with_len a n)
in_range zero a k low high = absurd (omega arith)
in_range (suc n) a k low high =
    elim (cases_lt a k) [ inl more ↦ inr (in_range n (a + 1) k (omega arith) (omega arith)) | inr same ↦ inl (omega arith) ]

pub from_range : (n a k : ℕ) → In k (range_with_len a n) → (a ≤ k) × (k < a + n)
from_range zero a k i = absurd i
from_range (suc n) a k (inl same) = (omega arith, omega arith)
from_range (suc n) a k (inr i) =
    let w = from_range n (a + 1) k i in
    let low : a + 1 ≤ k = w.0 in
    let high : k < a + 1 + n = w.1 in
    (omega arith, omega arith)

-- what is found from a number on, and that nothing is
pub record IsFirstFrom (test : ℕ → Bool) (a n k : ℕ) : Type 0 where
  pub from : a ≤ k
  pub below : k < a + n
  pub passes : test k ≡ true
  pub first : (m : ℕ) → a ≤ m → test m ≡ true → k ≤ m

found_from : (test : ℕ → Bool) → (n a k : ℕ) → find test (range_with_len a n) ≡ Some k → IsFirstFrom test a n k
found_from test zero a k e = absurd (let w : None ≡ Some k = e in cc)
found_from test (suc n) a k e =
    elim (cases_Bool (test a)) [
      | inl holds ↦
          let s : find test (range_with_len a (suc n)) ≡ Some a = ap (λ b. cond b (Some a) (find test (range_with_len (a + 1) n))) holds in
          let same : a ≡ k = (let w : Some a ≡ Some k = sym s ∙ e in cc) in
          record { from = omega arith; below = omega arith; passes = sym (ap test same) ∙ holds; first = λ m low t. omega arith }
      | inr fails ↦
          let s : find test (range_with_len a (suc n)) ≡ find test (range_with_len (a + 1) n) = ap (λ b. cond b (Some a) (find test (range_with_len (a + 1) n))) fails in
          let w = found_from test n (a + 1) k (sym s ∙ e) in
          let low : a + 1 ≤ k = w.from in
          let high : k < a + 1 + n = w.below in
          record {
            from = omega arith;
            below = omega arith;
            passes = w.passes;
            first = λ m l t. elim (cases_lt a m) [
              | inl more ↦ w.first m (omega arith) t
              | inr same ↦ (let q : m ≡ a = omega arith in absurd (let y : test a ≡ true = sym (ap test q) ∙ t in cc (y, fails)))
            ];
          }
    ]

none_from : (test : ℕ → Bool) → (n a : ℕ) → find test (range_with_len a n) ≡ None → (m : ℕ) → a ≤ m → m < a + n → test m ≡ true → ⊥
none_from test zero a e m low high t = omega arith
none_from test (suc n) a e m low high t =
    elim (cases_Bool (test a)) [
      | inl holds ↦
          let s : find test (range_with_len a (suc n)) ≡ Some a = ap (λ b. cond b (Some a) (find test (range_with_len (a + 1) n))) holds in
          let w : Some a ≡ None = sym s ∙ e in cc
      | inr fails ↦
          let s : find test (range_with_len a (suc n)) ≡ find test (range_with_len (a + 1) n) = ap (λ b. cond b (Some a) (find test (range_with_len (a + 1) n))) fails in
          elim (cases_lt a m) [
            | inl more ↦ none_from test n (a + 1) (sym s ∙ e) m (omega arith) (omega arith) t
            | inr same ↦ (let q : m ≡ a = omega arith in (let y : test a ≡ true = sym (ap test q) ∙ t in cc (y, fails)))
          ]
    ]

pub first_is : (test : ℕ → Bool) (n k : ℕ) → first_below test n ≡ Some k → IsFirstFrom test 0 n k
unfolding first_below
first_is test n k e = found_from test n 0 k e

pub first_none : (test : ℕ → Bool) (n : ℕ) → first_below test n ≡ None → (m : ℕ) → m < n → test m ≡ true → ⊥
unfolding first_below
first_none test n e m less t = none_from test n 0 e m (omega arith) (omega arith) t
