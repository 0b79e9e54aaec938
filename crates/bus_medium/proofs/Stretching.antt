-- One element of a list after another.
use Rattle.std.proofs.Common.{◌≡◌, ℕ, ◌+◌, ◌<◌, ◌≤◌, List, length, set, Some, inl, inr, arith, sym, ap, ◌∙◌, subst}
use Rattle.std.specs.Prelude.{slice_get}
use Rattle.std.proofs.lemmas.Bool.{cases_eq}
use Rattle.std.proofs.lemmas.List.{length-set}
use Rattle.std.proofs.lemmas.Option.{slice_get_within}
use Rattle.bus_medium.specs.Jumps.{Each}
use Rattle.bus_medium.proofs.Seats.{get_set_same, get_set_other, same_some}

-- R holds of the elements at the first i places, and the others are as before
pub record EachSoFar {X : Type 0} (R : X → X → Type 0) (xs ys : List X) (i : ℕ) : Type 0 where
  pub same_length : length ys ≡ length xs
  pub done : (j : ℕ) (x y : X) → j < i → slice_get xs j ≡ Some x → slice_get ys j ≡ Some y → R x y
  pub rest : (j : ℕ) → i ≤ j → slice_get ys j ≡ slice_get xs j

pub each_more : {X : Type 0} (R : X → X → Type 0) (xs ys : List X) (i : ℕ) (x y : X) → EachSoFar R xs ys i → i < length ys → slice_get ys i ≡ Some x → R x y → EachSoFar R xs (set ys i y) (i + 1)
each_more R xs ys i x y so h at p = record {
  same_length = length-set ys i y ∙ so.same_length;
  done = λ j a b below in_xs in_ys. elim (cases_eq i j) [
    | inl here ↦
        let old : Some a ≡ Some x = sym in_xs ∙ ap (slice_get xs) (sym here) ∙ sym (so.rest i (omega arith)) ∙ at in
        let new : Some b ≡ Some y = sym in_ys ∙ ap (slice_get (set ys i y)) (sym here) ∙ get_set_same ys i y h in
        subst (λ v. R v b) (sym (same_some a x old)) (subst (λ w. R x w) (sym (same_some b y new)) p)
    | inr other ↦ so.done j a b (omega arith) in_xs (sym (get_set_other ys i j y other) ∙ in_ys)
  ];
  rest = λ j low. get_set_other ys i j y (λ e. omega arith) ∙ so.rest j (omega arith);
}

pub each_all : {X : Type 0} (R : X → X → Type 0) (xs ys : List X) (i : ℕ) → EachSoFar R xs ys i → length ys ≤ i → Each R xs ys
each_all R xs ys i so h = record {
  same_length = so.same_length;
  each = λ j x y in_xs in_ys. so.done j x y (let k : j < length ys = slice_get_within ys j y in_ys in omega arith) in_xs in_ys;
}
