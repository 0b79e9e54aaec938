-- Lists of which no two elements are the same, also where what stands in them is sorted.
use Rattle.std.specs.Prelude.{◌≡◌, ◌⊎◌, ℕ, Bool, true, false, ◌||◌, List, [], ◌∷◌, ◌++◌, Some, None, nat_lt}
use Rattle.std.specs.List.{list_any, flat_map, IsDistinct}
use Rattle.std.proofs.Common.{refl, ap, ◌∙◌, cond, inl, inr}
use Rattle.std.proofs.lemmas.List.Folds.{list_any-append}
use Rattle.bus_strings.specs.Members.{In}
use Rattle.bus_strings.proofs.MemberLaws.{of_each, in_append_cases, in_append_left, in_append_right}
use Rattle.bus_table.specs.Tables.{Sender}
use Rattle.bus_table.specs.Turns.{insert, sort}
use Rattle.bus_table.specs.Whole.{first_again}
use Rattle.bus_table.proofs.ValidLaws.{all_distinct}

-- none of these is the same as one of those
abbrev pub Across : {A : Type 0} → (A → A → Bool) → List A → List A → Type 0
Across {A} same xs ys = (x y : A) → In x xs → In y ys → same x y ≡ false

-- no two of these are the same
abbrev pub Apart : {A : Type 0} → (A → A → Bool) → List A → Type 0
Apart same [] = Unit {0}
Apart {A} same (x ∷ xs) = ((y : A) → In y xs → same x y ≡ false) × Apart same xs

from_distinct : {A : Type 0} (same : A → A → Bool) (xs : List A) → IsDistinct same xs → Apart same xs
unfolding IsDistinct
from_distinct same [] h = tt
from_distinct same (x ∷ xs) h = (of_each (λ y. same x y ≡ false) xs h.0, from_distinct same xs h.1)

-- that is that none stands again
pub apart_of : {A : Type 0} (same : A → A → Bool) (xs : List A) → first_again same [] xs ≡ None → Apart same xs
apart_of same xs h = from_distinct same xs (all_distinct same [] xs h).0

again_behind : {A : Type 0} (same : A → A → Bool) (earlier xs : List A) → Apart same xs
    → ((z : A) → In z xs → list_any (λ y. same y z) earlier ≡ false) → first_again same earlier xs ≡ None
again_behind same earlier [] apart fresh = refl
again_behind same earlier (x ∷ xs) apart fresh =
    ap (λ b. cond b (Some x) (first_again same (earlier ++ x ∷ []) xs)) (fresh x (inl refl))
    ∙ again_behind same (earlier ++ x ∷ []) xs apart.1
    (λ z i. list_any-append (λ y. same y z) earlier (x ∷ []) ∙ ap (λ b. b || (same x z || false)) (fresh z (inr i)) ∙ ap (λ b. b || false) (apart.0 z i))

pub none_again : {A : Type 0} (same : A → A → Bool) (xs : List A) → Apart same xs → first_again same [] xs ≡ None
none_again same xs apart = again_behind same [] xs apart (λ z i. refl)

-- two lists put together
pub apart_front : {A : Type 0} (same : A → A → Bool) (xs ys : List A) → Apart same (xs ++ ys) → Apart same xs
apart_front same [] ys h = tt
apart_front same (x ∷ xs) ys h = ((λ y i. h.0 y (in_append_left xs ys y i)), apart_front same xs ys h.1)

pub apart_back : {A : Type 0} (same : A → A → Bool) (xs ys : List A) → Apart same (xs ++ ys) → Apart same ys
apart_back same [] ys h = h
apart_back same (x ∷ xs) ys h = apart_back same xs ys h.1

pub apart_across : {A : Type 0} (same : A → A → Bool) (xs ys : List A) → Apart same (xs ++ ys) → Across same xs ys
apart_across same [] ys h x y i j = absurd i
apart_across same (z ∷ xs) ys h x y (inl e) j = ap (λ w. same w y) e ∙ h.0 y (in_append_right xs ys y j)
apart_across same (z ∷ xs) ys h x y (inr i) j = apart_across same xs ys h.1 x y i j

pub apart_join : {A : Type 0} (same : A → A → Bool) (xs ys : List A) → Apart same xs → Apart same ys → Across same xs ys
    → Apart same (xs ++ ys)
apart_join same [] ys a b c = b
apart_join same (x ∷ xs) ys a b c = (
  (λ y i. elim (in_append_cases xs ys y i) [ inl l ↦ a.0 y l | inr r ↦ c x y (inl refl) r ]),
  apart_join same xs ys a.1 b (λ z y i j. c z y (inr i) j),
)

-- ---- what senders have, and these sorted
module _ {A : Type 0} (same : A → A → Bool) (turned : (x y : A) → same x y ≡ false → same y x ≡ false) (f : Sender → List A) (key : Sender → ℕ) where
  pub in_insert : (a : Sender) (bs : List Sender) (x : A) → In x (flat_map f (insert key a bs)) → In x (f a) ⊎ In x (flat_map f bs)
  in_insert a [] x i = in_append_cases (f a) [] x i
  in_insert a (b ∷ bs) x i =
      elim (nat_lt (key a) (key b)) as (λ w. In x (flat_map f (cond w (a ∷ (b ∷ bs)) (b ∷ insert key a bs))) → In x (f a) ⊎ In x (f b ++ flat_map f bs)) [
        | true ↦ λ k. in_append_cases (f a) (f b ++ flat_map f bs) x k
        | false ↦ λ k. elim (in_append_cases (f b) (flat_map f (insert key a bs)) x k) [
          | inl l ↦ inr (in_append_left (f b) (flat_map f bs) x l)
          | inr r ↦ elim (in_insert a bs x r) [ inl l ↦ inl l | inr m ↦ inr (in_append_right (f b) (flat_map f bs) x m) ]
        ]
      ] i

  pub in_sorted : (bs : List Sender) (x : A) → In x (flat_map f (sort key bs)) → In x (flat_map f bs)
  in_sorted [] x i = i
  in_sorted (a ∷ bs) x i =
      elim (in_insert a (sort key bs) x i) [
        | inl l ↦ in_append_left (f a) (flat_map f bs) x l
        | inr r ↦ in_append_right (f a) (flat_map f bs) x (in_sorted bs x r)
      ]

  apart_insert : (a : Sender) (bs : List Sender) → Apart same (f a ++ flat_map f bs) → Apart same (flat_map f (insert key a bs))
  apart_insert a [] h = h
  apart_insert a (b ∷ bs) h =
      let all = f b ++ flat_map f bs in
      let own = apart_front same (f a) all h in
      let rest = apart_back same (f a) all h in
      let across = apart_across same (f a) all h in
      let moved = apart_insert a bs (apart_join same (f a) (flat_map f bs) own (apart_back same (f b) (flat_map f bs) rest)
      (λ x y i j. across x y i (in_append_right (f b) (flat_map f bs) y j))) in
      let behind : Across same (f b) (flat_map f (insert key a bs)) = λ x y i j. elim (in_insert a bs y j) [
        | inl l ↦ turned y x (across y x l (in_append_left (f b) (flat_map f bs) x i))
        | inr r ↦ apart_across same (f b) (flat_map f bs) rest x y i r
      ] in
      elim (nat_lt (key a) (key b)) as (λ w. Apart same (flat_map f (cond w (a ∷ (b ∷ bs)) (b ∷ insert key a bs)))) [
        | true ↦ h
        | false ↦ apart_join same (f b) (flat_map f (insert key a bs)) (apart_front same (f b) (flat_map f bs) rest) moved behind
      ]

  pub apart_sorted : (bs : List Sender) → Apart same (flat_map f bs) → Apart same (flat_map f (sort key bs))
  apart_sorted [] h = h
  apart_sorted (a ∷ bs) h =
      apart_insert a (sort key bs) (apart_join same (f a) (flat_map f (sort key bs)) (apart_front same (f a) (flat_map f bs) h)
      (apart_sorted bs (apart_back same (f a) (flat_map f bs) h))
      (λ x y i j. apart_across same (f a) (flat_map f bs) h x y i (in_sorted bs y j)))
