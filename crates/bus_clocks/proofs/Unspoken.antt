-- How long those take that haven't spoken yet.
use Rattle.std.proofs.Common.{◌≡◌, ℕ, zero, suc, ◌+◌, ◌<◌, ◌≤◌, ◌⊎◌, Bool, true, false, cond, inl, inr, arith, sym, refl, ap, subst, eq-eqb, ne_eqb}
use Rattle.std.specs.Prelude.{nat_eq}
use Rattle.std.proofs.lemmas.Bool.{cases_lt, cases_eq, true≢false}
use Rattle.bus_clocks.specs.Buses.{sum_below}
use Rattle.bus_clocks.proofs.Existence.{Dec}

abbrev pub unspoken : (ℕ → ℕ) → (ℕ → Bool) → ℕ → ℕ
unspoken f s zero = 0
unspoken f s (suc n) = unspoken f s n + cond (s n) 0 (f n)

abbrev pub mark : (ℕ → Bool) → ℕ → ℕ → Bool
mark s k i = cond (nat_eq i k) true (s i)

pub mark_self : (s : ℕ → Bool) (k : ℕ) → mark s k k ≡ true
mark_self s k = ap (λ b. cond b true (s k)) (eq-eqb k k refl)

pub mark_other : (s : ℕ → Bool) (k i : ℕ) → (i ≡ k → ⊥) → mark s k i ≡ s i
mark_other s k i other = ap (λ b. cond b true (s i)) (ne_eqb i k other)

mark_above : (f : ℕ → ℕ) (s : ℕ → Bool) (k n : ℕ) → n ≤ k → unspoken f (mark s k) n ≡ unspoken f s n
mark_above f s k zero low = refl
mark_above f s k (suc n) low =
    let e : mark s k n ≡ s n = mark_other s k n (λ same. omega arith) in
    let one : cond (mark s k n) 0 (f n) ≡ cond (s n) 0 (f n) = ap (λ b. cond b 0 (f n)) e in
    omega (arith, mark_above f s k n (omega arith), one)

pub marked : (f : ℕ → ℕ) (s : ℕ → Bool) (k n : ℕ) → k < n → s k ≡ false → unspoken f (mark s k) n + f k ≡ unspoken f s n
marked f s k zero low is = absurd (omega arith)
marked f s k (suc n) low is = elim (cases_eq n k) [
  | inl same ↦
      let one : cond (mark s k n) 0 (f n) ≡ 0 = subst (λ i. cond (mark s k i) 0 (f i) ≡ 0) (sym same) (ap (λ b. cond b 0 (f k)) (mark_self s k)) in
      let two : cond (s n) 0 (f n) ≡ f k = subst (λ i. cond (s i) 0 (f i) ≡ f k) (sym same) (ap (λ b. cond b 0 (f k)) is) in
      omega (arith, mark_above f s k n (omega arith), one, two)
  | inr other ↦
      let e : mark s k n ≡ s n = mark_other s k n other in
      let one : cond (mark s k n) 0 (f n) ≡ cond (s n) 0 (f n) = ap (λ b. cond b 0 (f n)) e in
      omega (arith, marked f s k n (omega arith) is, one)
]

pub none_spoken : (f : ℕ → ℕ) (n : ℕ) → unspoken f (λ _. false) n ≡ sum_below f n
none_spoken f zero = refl
none_spoken f (suc n) = ap (λ m. m + f n) (none_spoken f n)

pub sum_at : (f : ℕ → ℕ) (k n : ℕ) → k < n → f k ≤ sum_below f n
sum_at f k zero low = absurd (omega arith)
sum_at f k (suc n) low = elim (cases_eq n k) [
  | inl same ↦ (let e : f n ≡ f k = ap f same in omega arith)
  | inr other ↦ (let l : f k ≤ sum_below f n = sum_at f k n (omega arith) in omega arith)
]

pub dec_false : (b : Bool) → Dec (b ≡ false)
dec_false true = inr (λ h. absurd (true≢false h))
dec_false false = inl refl

-- the greater of two numbers
pub top : (a b : ℕ) → (c : ℕ) × (a ≤ c) × (b ≤ c) × ((c ≡ a) ⊎ (c ≡ b))
top a b = elim (cases_lt a b) [
  | inl less ↦ (b, omega arith, omega arith, inr refl)
  | inr more ↦ (a, omega arith, omega arith, inl refl)
]
