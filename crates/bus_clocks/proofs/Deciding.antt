-- Decisions as tests, and who is next in a round.
use Rattle.std.proofs.Common.{◌≡◌, ℕ, zero, suc, ◌<◌, ◌⊎◌, Bool, true, false, inl, inr, arith, sym, refl, subst}
use Rattle.std.proofs.lemmas.Bool.{cases_lt, cases_Bool, true≢false}
use Rattle.bus_clocks.specs.Growing.{IsNext, IsOver}
use Rattle.bus_clocks.proofs.Existence.{Dec}

-- a decision as a test
pub test : {P : Type 0} → Dec P → Bool
test (inl p) = true
test (inr n) = false

pub test_true : {P : Type 0} (d : Dec P) → test d ≡ true → P
unfolding test
test_true (inl p) h = p
test_true (inr n) h = absurd (true≢false (sym h))

pub test_false : {P : Type 0} (d : Dec P) → test d ≡ false → P → ⊥
unfolding test
test_false (inl p) h q = absurd (true≢false h)
test_false (inr n) h q = n q

pub tested : {P : Type 0} (d : Dec P) → P → test d ≡ true
unfolding test
tested (inl p) q = refl
tested (inr n) q = absurd (n q)

-- who is next in the round, if anybody
pub find_next : (p : ℕ → Bool) (a n : ℕ) → ((k : ℕ) × IsNext n p a k) ⊎ IsOver n p a
find_next p a zero = inr (λ k low high. absurd (omega arith))
find_next p a (suc n) = elim (find_next p a n) [
  | inl f ↦ (let is : IsNext n p a f.0 = f.1 in let known : f.0 < n = is.known in inl (f.0, record { low = is.low; known = omega arith; there = is.there; none = is.none }))
  | inr over ↦ elim (cases_lt n a) [
    | inl less ↦ inr (λ k low high. elim (cases_lt k n) [ inl before ↦ over k low before | inr at ↦ absurd (omega arith) ])
    | inr more ↦ elim (cases_Bool (p n)) [
      | inl is ↦ inl (n, record { low = more; known = omega arith; there = is; none = λ j low high. over j low high })
      | inr isnt ↦ inr (λ k low high. elim (cases_lt k n) [ inl before ↦ over k low before | inr at ↦ subst (λ i. p i ≡ false) (let e : n ≡ k = omega arith in e) isnt ])
    ]
  ]
]
