-- Numbers that stand in a list by terminal, with a bound: laws for the crates above to cite.
use Rattle.std.proofs.Common.{ℕ, ◌≤◌, List, [], ◌∷◌, ◌++◌, length, inl, inr, arith, sym, subst}
use Rattle.std.proofs.lemmas.Bool.{cases_lt, cases_eq}
use Rattle.std.proofs.lemmas.List.{length_push, get_or_append_left, get_or_push, get_or_past}
use Rattle.bus_propagation.specs.Numbered.{numbered}

-- none stands in an empty list
pub numbered_none : (most n : ℕ) → numbered [] n ≤ most
numbered_none most n = omega arith

-- one more within the bound
pub numbered_push : (numbers : List ℕ) (x most : ℕ) → ((n : ℕ) → numbered numbers n ≤ most) → x ≤ most → (n : ℕ) → numbered (numbers ++ x ∷ []) n ≤ most
numbered_push numbers x most within low n = elim (cases_lt n (length numbers)) [
  | inl before ↦ subst (λ m. m ≤ most) (sym (get_or_append_left numbers (x ∷ []) 0 n before)) (within n)
  | inr behind ↦ elim (cases_eq n (length numbers)) [
    | inl here ↦ subst (λ m. m ≤ most) (sym (get_or_push numbers x 0 n (sym here))) low
    | inr beyond ↦ subst (λ m. m ≤ most) (sym (get_or_past (numbers ++ x ∷ []) n 0 (omega (arith, length_push numbers x)))) (omega arith)
  ]
]
