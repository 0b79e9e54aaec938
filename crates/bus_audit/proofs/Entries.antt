-- The entry at a pair, and what is a sender's own at the settled start.
use Rattle.std.proofs.Common.{◌≡◌, ℕ, ◌<◌, true, false, ◌&&◌, eqb, List, [], inl, inr, arith, refl}
use Rattle.std.proofs.lemmas.Bool.{cases_Bool, and_parts, eq-eqb, eqb-true}
use Rattle.bus_strings.specs.Messages.{Entry}
use Rattle.bus_medium.specs.Past.{own}
use Rattle.bus_medium.proofs.PastLaws.{not_own_test}
use Rattle.bus_audit.proofs.Lists.{filter_none}

-- the test of `entry_at`
pub at_test : (t n : ℕ) (x : Entry) → x.moment ≡ t → x.terminal ≡ n → (eqb x.moment t && eqb x.terminal n) ≡ true
at_test t n x a b = rw (eq-eqb x.moment t a, eq-eqb x.terminal n b) refl

-- what it takes
pub from_at_test : (t n : ℕ) (x : Entry) → (eqb x.moment t && eqb x.terminal n) ≡ true → (x.moment ≡ t) × (x.terminal ≡ n)
from_at_test t n x h = let p = and_parts (eqb x.moment t) (eqb x.terminal n) h in (eqb-true x.moment t p.0, eqb-true x.terminal n p.1)

-- and what it does not take
pub not_at_test : (t n : ℕ) (x : Entry) → ((x.moment ≡ t) × (x.terminal ≡ n) → ⊥) → (eqb x.moment t && eqb x.terminal n) ≡ false
not_at_test t n x h =
    elim (cases_Bool (eqb x.moment t && eqb x.terminal n)) [ inl yes' ↦ absurd (h (from_at_test t n x yes')) | inr no' ↦ no' ]

-- at the settled start nothing is own
pub own_none : (l : List Entry) (n : ℕ) → own l n 0 ≡ []
own_none l n = filter_none _ l (λ x i. not_own_test n 0 x (λ p. let k : x.moment < 0 = p.1 in omega arith))
