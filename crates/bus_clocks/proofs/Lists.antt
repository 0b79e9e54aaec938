-- Lists of transmissions.
use Rattle.std.proofs.Common.{◌≡◌, ℕ, ◌<◌, ◌≤◌, true, false, ◌&&◌, cond, eqb, ltb, List, [], ◌∷◌, ◌++◌, ◌⊎◌, inl, inr, arith, sym, refl, ap, ◌∙◌, subst, append-nil, leb-true}
use Rattle.std.specs.Prelude.{nat_le, nat_lt}
use Rattle.std.proofs.lemmas.Bool.{cases_Bool, eq-eqb, eqb-true, lt-ltb, ltb-true, and_parts}
use Rattle.std.proofs.lemmas.List.Elements.{filter-append}
use Rattle.bus_clocks.specs.Entries.{Entry, In, own, IsBefore, IsAscending}

pub in_cases : (xs ys : List Entry) (x : Entry) → In x (xs ++ ys) → In x xs ⊎ In x ys
in_cases [] ys x h = inr h
in_cases (y ∷ xs) ys x (inl same) = inl (inl same)
in_cases (y ∷ xs) ys x (inr h) = elim (in_cases xs ys x h) [ inl l ↦ inl (inr l) | inr r ↦ inr r ]

pub in_left : (xs ys : List Entry) (x : Entry) → In x xs → In x (xs ++ ys)
in_left [] ys x h = absurd h
in_left (y ∷ xs) ys x (inl same) = inl same
in_left (y ∷ xs) ys x (inr h) = inr (in_left xs ys x h)

pub in_right : (xs ys : List Entry) (x : Entry) → In x ys → In x (xs ++ ys)
in_right [] ys x h = h
in_right (y ∷ xs) ys x h = inr (in_right xs ys x h)

pub moved : (xs : List Entry) (y : Entry) (ys : List Entry) → xs ++ y ∷ ys ≡ (xs ++ y ∷ []) ++ ys
moved [] y ys = refl
moved (x ∷ xs) y ys = ap (λ l. x ∷ l) (moved xs y ys)

pub in_push : (xs : List Entry) (y x : Entry) → In x (xs ++ y ∷ []) → In x xs ⊎ (x ≡ y)
in_push xs y x h = elim (in_cases xs (y ∷ []) x h) [ inl l ↦ inl l | inr r ↦ elim r [ inl same ↦ inr same | inr none ↦ absurd none ] ]

-- what stands before stands before
pub before_parts : (xs ys : List Entry) → IsAscending (xs ++ ys) → (x y : Entry) → In x xs → In y ys → IsBefore x y
before_parts [] ys up x y i j = absurd i
before_parts (z ∷ xs) ys up x y (inl same) j = subst (λ w. IsBefore w y) (sym same) (up.0 y (in_right xs ys y j))
before_parts (z ∷ xs) ys up x y (inr i) j = before_parts xs ys up.1 x y i j

pub ascending_right : (xs ys : List Entry) → IsAscending (xs ++ ys) → IsAscending ys
ascending_right [] ys up = up
ascending_right (x ∷ xs) ys up = ascending_right xs ys up.1

-- ---- a sender's own

pub is_own : (k t : ℕ) (x : Entry) → eqb x.sender k && ltb x.moment t ≡ true → (x.sender ≡ k) × (x.moment < t)
is_own k t x h = (let p = and_parts (eqb x.sender k) (ltb x.moment t) h in (eqb-true x.sender k p.0, ltb-true x.moment t p.1))

pub own_is : (k t : ℕ) (x : Entry) → x.sender ≡ k → x.moment < t → eqb x.sender k && ltb x.moment t ≡ true
own_is k t x mine less = rw (eq-eqb x.sender k mine) (lt-ltb x.moment t less)

pub own_none : (l : List Entry) (k t : ℕ) → ((x : Entry) → In x l → t ≤ x.moment) → own l k t ≡ []
own_none [] k t late = refl
own_none (y ∷ l) k t late = elim (cases_Bool (eqb y.sender k && ltb y.moment t)) [
  | inl yes' ↦ (let q : y.moment < t = (is_own k t y yes').1 in let w : t ≤ y.moment = late y (inl refl) in absurd (omega arith))
  | inr no' ↦ ap (λ b. cond b (y ∷ own l k t) (own l k t)) no' ∙ own_none l k t (λ x i. late x (inr i))
]

-- what comes later doesn't count
pub own_early : (l m : List Entry) (k t : ℕ) → ((x : Entry) → In x m → t ≤ x.moment) → own (l ++ m) k t ≡ own l k t
own_early l m k t late =
    filter-append (λ x. eqb x.sender k && ltb x.moment t) l m ∙ ap (λ z. own l k t ++ z) (own_none m k t late) ∙ append-nil (own l k t)

-- ---- tests that fail

pub later_false : (a b : ℕ) → b < a → nat_le a b ≡ false
later_false a b less = elim (cases_Bool (nat_le a b)) [
  | inl yes' ↦ (let l : a ≤ b = leb-true a b yes' in absurd (omega arith))
  | inr no' ↦ no'
]

pub sooner_false : (a b : ℕ) → b ≤ a → nat_lt a b ≡ false
sooner_false a b more = elim (cases_Bool (nat_lt a b)) [
  | inl yes' ↦ (let l : a < b = ltb-true a b yes' in absurd (omega arith))
  | inr no' ↦ no'
]
