-- Rows of tests and fields of a line.
use Rattle.std.proofs.Common.{arith, zero, suc, ◌≡◌, ℕ, ◌≤◌, Bool, true, false, not, cond, ◌==◌, List, [], ◌∷◌}
use Rattle.std.proofs.Common.{length, Option, Some, None, Ok, refl}
use Rattle.std.proofs.Common.{drop}
use Rattle.std.specs.Int.{is_in_range}
use Rattle.std.proofs.lemmas.Bool.{eqb-true}
use Rattle.std.proofs.lemmas.Bool.Decides.{nat_tests}
use Rattle.bus_text.specs.Fields.{is_at}
use Rattle.bus_text.specs.Refusals.{unless}
use Rattle.bus_text.proofs.FieldLemmas.{same_bytes}
use Rattle.bus_trace.specs.declared.reason.TraceReason.{TraceReason}
use Rattle.bus_trace.specs.Limits.{most_fields}
use Rattle.bus_trace.specs.States.{field}

-- ---- rows of tests
-- no row stands in the way: the first one's test doesn't hold, nor do those of the others
pub row : {A : Type 0} (t : Bool) (r : TraceReason) (others : Option TraceReason) (x y : A)
    → unless (cond (not t) (Some r) others) x ≡ Ok y → (t ≡ true) × (unless others x ≡ Ok y)
row true r others x y h = (refl, h)
row false r others x y h = absurd cc

-- a row whose test stands in the way where it holds
pub row_against : {A : Type 0} (t : Bool) (r : TraceReason) (others : Option TraceReason) (x y : A)
    → unless (cond t (Some r) others) x ≡ Ok y → (t ≡ false) × (unless others x ≡ Ok y)
row_against true r others x y h = absurd cc
row_against false r others x y h = (refl, h)

pub done : {A : Type 0} (x y : A) → unless {R = TraceReason} None x ≡ Ok y → x ≡ y
done x y h = cc

-- ---- fields by their number
pub one_field : (fields : List (List ℕ)) → (length fields == 1) ≡ true → fields ≡ field fields 0 ∷ []
one_field [] h = absurd cc
one_field (a ∷ []) h = refl
one_field (a ∷ b ∷ fields) h = absurd (omega (arith, eqb-true (length (a ∷ b ∷ fields)) 1 h))

pub two_fields : (fields : List (List ℕ)) → (length fields == 2) ≡ true → fields ≡ field fields 0 ∷ field fields 1 ∷ []
two_fields [] h = absurd cc
two_fields (a ∷ []) h = absurd (omega (arith, eqb-true (length (a ∷ [])) 2 h))
two_fields (a ∷ b ∷ []) h = refl
two_fields (a ∷ b ∷ c ∷ fields) h = absurd (omega (arith, eqb-true (length (a ∷ b ∷ c ∷ fields)) 2 h))

pub three_fields : (fields : List (List ℕ)) → (length fields == 3) ≡ true → fields ≡ field fields 0 ∷ field fields 1 ∷ field fields 2 ∷ []
three_fields [] h = absurd cc
three_fields (a ∷ []) h = absurd (omega (arith, eqb-true (length (a ∷ [])) 3 h))
three_fields (a ∷ b ∷ []) h = absurd (omega (arith, eqb-true (length (a ∷ b ∷ [])) 3 h))
three_fields (a ∷ b ∷ c ∷ []) h = refl
three_fields (a ∷ b ∷ c ∷ d ∷ fields) h = absurd (omega (arith, eqb-true (length (a ∷ b ∷ c ∷ d ∷ fields)) 3 h))

pub first_and : (fields : List (List ℕ)) → is_in_range 2 most_fields (length fields) ≡ true → fields ≡ field fields 0 ∷ drop 1 fields
first_and [] h = absurd cc
first_and (f ∷ fields) h = refl

pub rest_few : (fields : List (List ℕ)) → is_in_range 2 most_fields (length fields) ≡ true → length (drop 1 fields) ≤ 257
rest_few [] h = omega arith
rest_few (f ∷ fields) h = let l : length (f ∷ fields) ≤ 258 = most (length (f ∷ fields)) 2 258 h in omega arith where
  most : (n lo hi : ℕ) → is_in_range lo hi n ≡ true → n ≤ hi
  most n lo hi h = grind (arith, nat_tests)

pub least : (n lo hi : ℕ) → is_in_range lo hi n ≡ true → lo ≤ n
least n lo hi h = grind (arith, nat_tests)

pub most : (n lo hi : ℕ) → is_in_range lo hi n ≡ true → n ≤ hi
most n lo hi h = grind (arith, nat_tests)

pub at_is : (fields : List (List ℕ)) (k : ℕ) (word : List ℕ) → is_at fields k word ≡ true → field fields k ≡ word
at_is [] k word h = absurd cc
at_is (f ∷ fields) zero word h = same_bytes f word h
at_is (f ∷ fields) (suc k) word h = at_is fields k word h
