-- The greatest number that a test takes, and how it is found.
use Rattle.std.proofs.Common.{arith, ◌≡◌, ◌≢◌, ℕ, zero, suc, ◌-◌, ◌<◌, ◌≤◌, Bool, true, false, cond}
use Rattle.std.proofs.Common.{refl, sym, ◌∙◌, ap, subst, inl, inr}
use Rattle.std.proofs.lemmas.Bool.{true≢false, cases_Bool}
use Rattle.bus_margins.specs.Greatest.{greatest_to, IsGreatest}

on_yes : (test : ℕ → Bool) (n : ℕ) → test (suc n) ≡ true → greatest_to test (suc n) ≡ suc n
on_yes test n h = ap (λ b. cond b (suc n) (greatest_to test n)) h

on_no : (test : ℕ → Bool) (n : ℕ) → test (suc n) ≡ false → greatest_to test (suc n) ≡ greatest_to test n
on_no test n h = ap (λ b. cond b (suc n) (greatest_to test n)) h

-- it is the one that is computed
pub greatest_is : (test : ℕ → Bool) (limit n : ℕ) → IsGreatest test limit n → n ≡ greatest_to test limit
greatest_is test zero n g = let low = g.most in let e : greatest_to test zero ≡ 0 = refl in omega (arith, e, low)
greatest_is test (suc k) n g = elim (cases_Bool (test (suc k))) [
  | inl held ↦
      let low : suc k ≤ n = g.greatest (suc k) (omega arith) held in
      let high : n ≤ suc k = g.most in
      let e : greatest_to test (suc k) ≡ suc k = on_yes test k held in
      omega (arith, e, low, high)
  | inr not ↦
      let other : n ≢ suc k = λ e. true≢false (sym g.kept ∙ ap test e ∙ not) in
      let high : n ≤ suc k = g.most in
      let less : n ≤ k = omega (arith, other, high) in
      greatest_is test k n (record { most = less; kept = g.kept; greatest = λ m l h. g.greatest m (omega arith) h }) ∙ sym (on_no test k not)
]

-- which is it, where one is taken
pub found : (test : ℕ → Bool) (limit k : ℕ) → k ≤ limit → test k ≡ true → IsGreatest test limit (greatest_to test limit)
found test zero k low takes = record {
  most = omega arith;
  kept = (let e : k ≡ 0 = omega arith in subst (λ n. test n ≡ true) e takes);
  greatest = λ m within h. within;
}
found test (suc n) k low takes = elim (cases_Bool (test (suc n))) [
  | inl yes' ↦ subst (IsGreatest test (suc n)) (sym (on_yes test n yes')) (record { most = omega arith; kept = yes'; greatest = λ m within h. within })
  | inr no' ↦
      let other : k ≢ suc n = λ e. true≢false (sym takes ∙ ap test e ∙ no') in
      let before = found test n k (omega (arith, other)) takes in
      subst (IsGreatest test (suc n)) (sym (on_no test n no')) (record {
        most = (let b = before.most in omega (arith, b));
        kept = before.kept;
        greatest = λ m within h.
            let less : m ≢ suc n = λ e. true≢false (sym h ∙ ap test e ∙ no') in
            before.greatest m (omega (arith, less)) h;
      })
]

-- ---- by halving

-- the least of these values is taken, and none above the greatest
pub record IsAmong (test : ℕ → Bool) (limit low high : ℕ) : Type 0 where
  pub order : low ≤ high
  pub most : high ≤ limit
  pub kept : test low ≡ true
  pub none : (m : ℕ) → high < m → m ≤ limit → test m ≡ false

-- what takes one number up to the limit takes each smaller one
abbrev pub TakesLess : (ℕ → Bool) → ℕ → Type 0
TakesLess test limit = (a b : ℕ) → a ≤ b → b ≤ limit → test b ≡ true → test a ≡ true

-- all values are left
pub all_left : (test : ℕ → Bool) (limit now : ℕ) → now ≤ limit → test now ≡ true → IsAmong test limit now limit
all_left test limit now within kept = record { order = within; most = omega arith; kept = kept; none = λ m g h. absurd (omega arith) }

-- the lower half is left
pub lower : (test : ℕ → Bool) (limit low high middle : ℕ) → TakesLess test limit → IsAmong test limit low high → low < middle → middle ≤ high
    → test middle ≡ false → IsAmong test limit low (middle - 1)
lower test limit low high middle less among l m h = record {
  order = omega arith;
  most = omega (arith, among.most);
  kept = among.kept;
  none = λ n g most. elim (cases_Bool (test n)) [
    | inl held ↦ absurd (true≢false (sym (less middle n (omega arith) most held) ∙ h))
    | inr not ↦ not
  ];
}
