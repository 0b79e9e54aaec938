-- Elements of lists, by place and by test.
use Rattle.std.proofs.Common.{◌≡◌, ◌≢◌, ◌⊎◌, Bool, true, false, cond, List, [], ◌∷◌, Option, Some, None, inl, inr, sym, refl, ap, ◌∙◌}
use Rattle.std.specs.List.{filter, find}
use Rattle.std.proofs.lemmas.Bool.{true≢false}
use Rattle.bus_strings.specs.Members.{In}
use Rattle.bus_medium.proofs.Seats.{same_some}

pub filter_none : {X : Type 0} (p : X → Bool) → (xs : List X) → ((x : X) → In x xs → p x ≡ false) → filter p xs ≡ []
filter_none p [] h = refl
filter_none p (y ∷ ys) h = ap (λ b. cond b (y ∷ filter p ys) (filter p ys)) (h y (inl refl)) ∙ filter_none p ys (λ x k. h x (inr k))

-- what a test finds
pub find_none : {X : Type 0} (p : X → Bool) → (xs : List X) → ((x : X) → In x xs → p x ≡ false) → find p xs ≡ None
find_none p [] h = refl
find_none p (y ∷ ys) h = ap (λ b. cond b (Some y) (find p ys)) (h y (inl refl)) ∙ find_none p ys (λ x k. h x (inr k))

pub find_one : {X : Type 0} (p : X → Bool) → (xs : List X) (x : X) → In x xs → p x ≡ true → ((y : X) → In y xs → p y ≡ true → y ≡ x) → find p xs ≡ Some x
find_one p [] x h e one = absurd h
find_one p (y ∷ ys) x h e one =
    elim (p y) as (λ b. p y ≡ b → cond b (Some y) (find p ys) ≡ Some x) [
      | true ↦ λ t. ap Some (one y (inl refl) t)
      | false ↦ λ f. elim h [
        | inl same ↦ absurd (true≢false (sym e ∙ ap p same ∙ f))
        | inr there ↦ find_one p ys x there e (λ z k. one z (inr k))
      ]
    ] refl

pub record Found {X : Type 0} (p : X → Bool) (xs : List X) (x : X) : Type 0 where
  pub there : In x xs
  pub passes : p x ≡ true

pub from_find : {X : Type 0} (p : X → Bool) → (xs : List X) (x : X) → find p xs ≡ Some x → Found p xs x
from_find p [] x h = absurd (let k : None ≡ Some x = h in cc)
from_find p (y ∷ ys) x h =
    elim (p y) as (λ b. p y ≡ b → cond b (Some y) (find p ys) ≡ Some x → Found p (y ∷ ys) x) [
      | true ↦ λ t k. let same : y ≡ x = same_some y x k in record { there = inl (sym same); passes = ap p (sym same) ∙ t }
      | false ↦ λ f k. let so = from_find p ys x k in record { there = inr so.there; passes = so.passes }
    ] refl h

-- an option is nothing or something
pub cases_option : {X : Type 0} (o : Option X) → (o ≡ None) ⊎ ((x : X) × (o ≡ Some x))
cases_option None = inl refl
cases_option (Some x) = inr (x, refl)
