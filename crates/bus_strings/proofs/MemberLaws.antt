-- What follows of the elements of lists: of lists put together, filtered, mapped and pushed to, and of places in lists.
use Rattle.std.specs.Prelude.{slice_get}
use Rattle.std.specs.List.{filter, filter_map, cons_option, list_all, list_any, AllByRecursion}
use Rattle.std.proofs.Common.{◌≡◌, ◌⊎◌, ℕ, zero, suc, Bool, true, false, cond, ◌||◌, List, [], ◌∷◌, ◌++◌, map, Option, Some, None, inl, inr, sym}
use Rattle.std.proofs.Common.{refl, ap, ◌∙◌, subst}
use Rattle.std.proofs.lemmas.Bool.{true≢false, and_parts}
use Rattle.bus_strings.proofs.ListLaws.{all_push}
use Rattle.bus_strings.specs.Members.{In}
use Rattle.bus_strings.specs.Messages.{Entry}
use Rattle.bus_strings.specs.Transmissions.{IsOrdered}

-- what holds of each element, at one
pub of_each : {X : Type 0} (P : X → Type 0) (xs : List X) → AllByRecursion P xs → (x : X) → In x xs → P x
of_each P [] h x i = absurd i
of_each P (y ∷ ys) h x (inl same) = subst P (sym same) h.0
of_each P (y ∷ ys) h x (inr i) = of_each P ys h.1 x i

pub all_in : {X : Type 0} (P : X → Type 0) (xs : List X) → ((x : X) → In x xs → P x) → AllByRecursion P xs
all_in P [] h = tt
all_in P (x ∷ xs) h = (h x (inl refl), all_in P xs (λ y i. h y (inr i)))

-- the element at a place, and the place of an element
pub at_in : {X : Type 0} → (xs : List X) (k : ℕ) (x : X) → slice_get xs k ≡ Some x → In x xs
at_in [] k x h = absurd (let w : None ≡ Some x = h in cc)
at_in (y ∷ ys) zero x h = inl (let w : Some y ≡ Some x = h in cc)
at_in (y ∷ ys) (suc k) x h = inr (at_in ys k x h)

pub in_at : {X : Type 0} → (xs : List X) (x : X) → In x xs → (k : ℕ) × (slice_get xs k ≡ Some x)
in_at [] x i = absurd i
in_at (y ∷ ys) x (inl same) = (0, ap Some (sym same))
in_at (y ∷ ys) x (inr i) = let w = in_at ys x i in (suc w.0, w.1)

-- an element of two lists put together
pub in_append_left : {X : Type 0} → (xs ys : List X) (x : X) → In x xs → In x (xs ++ ys)
in_append_left [] ys x h = absurd h
in_append_left (y ∷ xs) ys x (inl same) = inl same
in_append_left (y ∷ xs) ys x (inr h) = inr (in_append_left xs ys x h)

pub in_append_right : {X : Type 0} → (xs ys : List X) (x : X) → In x ys → In x (xs ++ ys)
in_append_right [] ys x h = h
in_append_right (y ∷ xs) ys x h = inr (in_append_right xs ys x h)

pub in_append_cases : {X : Type 0} → (xs ys : List X) (x : X) → In x (xs ++ ys) → In x xs ⊎ In x ys
in_append_cases [] ys x h = inr h
in_append_cases (y ∷ xs) ys x (inl same) = inl (inl same)
in_append_cases (y ∷ xs) ys x (inr h) = elim (in_append_cases xs ys x h) [ inl l ↦ inl (inr l) | inr r ↦ inr r ]

-- an element of a list that was pushed to
pub in_push_cases : {X : Type 0} → (xs : List X) (y x : X) → In x (xs ++ y ∷ []) → In x xs ⊎ (x ≡ y)
in_push_cases xs y x h =
    elim (in_append_cases xs (y ∷ []) x h) [ inl l ↦ inl l | inr r ↦ elim r [ inl same ↦ inr same | inr none ↦ absurd none ] ]

pub in_push : {X : Type 0} → (xs : List X) (y : X) → In y (xs ++ y ∷ [])
in_push xs y = in_append_right xs (y ∷ []) y (inl refl)

-- an element that a test takes
pub in_filter : {X : Type 0} (p : X → Bool) → (xs : List X) (x : X) → In x xs → p x ≡ true → In x (filter p xs)
in_filter p [] x h e = absurd h
in_filter p (y ∷ ys) x (inl same) e = subst (λ b. In x (cond b (y ∷ filter p ys) (filter p ys))) (sym (ap p (sym same) ∙ e)) (inl same)
in_filter p (y ∷ ys) x (inr h) e =
    elim (p y) as (λ b. In x (cond b (y ∷ filter p ys) (filter p ys))) [ true ↦ inr (in_filter p ys x h e) | false ↦ in_filter p ys x h e ]

pub from_filter : {X : Type 0} (p : X → Bool) → (xs : List X) (x : X) → In x (filter p xs) → In x xs × (p x ≡ true)
from_filter p [] x h = absurd h
from_filter p (y ∷ ys) x h =
    elim (p y) as (λ b. p y ≡ b → In x (cond b (y ∷ filter p ys) (filter p ys)) → In x (y ∷ ys) × (p x ≡ true)) [
      | true ↦ λ e k. elim k [ inl same ↦ (inl same, ap p same ∙ e) | inr r ↦ (inr (from_filter p ys x r).0, (from_filter p ys x r).1) ]
      | false ↦ λ e k. (inr (from_filter p ys x k).0, (from_filter p ys x k).1)
    ] refl h

-- tests that say the same of each element take the same
pub filter_same : {X : Type 0} (p q : X → Bool) → (xs : List X) → ((x : X) → In x xs → p x ≡ q x) → filter p xs ≡ filter q xs
filter_same p q [] h = refl
filter_same p q (y ∷ ys) h =
    ap (λ b. cond b (y ∷ filter p ys) (filter p ys)) (h y (inl refl))
    ∙ ap (λ zs. cond (q y) (y ∷ zs) zs) (filter_same p q ys (λ x k. h x (inr k)))

-- what a test takes of what a weaker one took
pub filter_filter : {X : Type 0} (p q : X → Bool) → (xs : List X) → ((x : X) → p x ≡ true → q x ≡ true)
    → filter p (filter q xs) ≡ filter p xs
filter_filter p q [] h = refl
filter_filter p q (y ∷ ys) h =
    elim (q y) as (λ b. q y ≡ b → filter p (cond b (y ∷ filter q ys) (filter q ys)) ≡ cond (p y) (y ∷ filter p ys) (filter p ys)) [
      | true ↦ λ e. ap (λ zs. cond (p y) (y ∷ zs) zs) (filter_filter p q ys h)
      | false ↦ λ e. elim (p y) as (λ b. p y ≡ b → filter p (filter q ys) ≡ cond b (y ∷ filter p ys) (filter p ys)) [
        | true ↦ λ k. absurd (true≢false (sym (h y k) ∙ e))
        | false ↦ λ k. filter_filter p q ys h
      ] refl
    ] refl

-- what a function gives of some element
pub from_given : {X Y : Type 0} (h : X → Option Y) (xs : List X) (y : Y) → In y (filter_map h xs) → (x : X) × (h x ≡ Some y)
from_given h [] y i = absurd i
from_given {X = X} {Y = Y} h (x ∷ xs) y i = by_answer (h x) refl i (λ j. from_given h xs y j) where
  by_answer : (o : Option Y) → h x ≡ o → In y (cons_option o (filter_map h xs)) → (In y (filter_map h xs) → (x : X) × (h x ≡ Some y)) → (x : X) × (h x ≡ Some y)
  by_answer None e j next = next j
  by_answer (Some z) e (inl same) next = (x, e ∙ ap Some (sym same))
  by_answer (Some z) e (inr j) next = next j

-- a test that takes all takes each
pub pass_in : {X : Type 0} (p : X → Bool) (xs : List X) (x : X) → list_all p xs ≡ true → In x xs → p x ≡ true
pass_in p [] x h i = absurd i
pass_in p (y ∷ ys) x h (inl same) = ap p same ∙ (and_parts (p y) (list_all p ys) h).0
pass_in p (y ∷ ys) x h (inr i) = pass_in p ys x (and_parts (p y) (list_all p ys) h).1 i

-- a test finds something where it takes an element
pub any_in : {X : Type 0} (p : X → Bool) → (xs : List X) (x : X) → In x xs → p x ≡ true → list_any p xs ≡ true
any_in p [] x h e = absurd h
any_in p (y ∷ ys) x (inl same) e = rw (ap p (sym same) ∙ e) refl
any_in p (y ∷ ys) x (inr h) e = elim (p y) as (λ b. (b || list_any p ys) ≡ true) [ true ↦ refl | false ↦ any_in p ys x h e ]

pub any_found : {X : Type 0} (p : X → Bool) (xs : List X) → list_any p xs ≡ true → (x : X) × In x xs × (p x ≡ true)
any_found p [] h = absurd cc
any_found p (y ∷ ys) h =
    (elim (p y) as (λ b. p y ≡ b → (b || list_any p ys) ≡ true → (x : _) × In x (y ∷ ys) × (p x ≡ true)) [
      | true ↦ λ e k. (y, inl refl, e)
      | false ↦ λ e k. (let w = any_found p ys k in (w.0, inr w.1, w.2))
    ]) refl h

pub none_any : {X : Type 0} (p : X → Bool) → (xs : List X) → ((x : X) → In x xs → p x ≡ false) → list_any p xs ≡ false
none_any p [] h = refl
none_any p (y ∷ ys) h = rw (h y (inl refl)) (none_any p ys (λ x k. h x (inr k)))

-- a test that finds only what a filter keeps
pub any_filter : {X : Type 0} (p q : X → Bool) → (xs : List X) → ((x : X) → p x ≡ true → q x ≡ true)
    → list_any p (filter q xs) ≡ list_any p xs
any_filter p q [] h = refl
any_filter p q (y ∷ ys) h =
    elim (q y) as (λ b. q y ≡ b → list_any p (cond b (y ∷ filter q ys) (filter q ys)) ≡ (p y || list_any p ys)) [
      | true ↦ λ e. ap (λ b. p y || b) (any_filter p q ys h)
      | false ↦ λ e. elim (p y) as (λ b. p y ≡ b → list_any p (filter q ys) ≡ (b || list_any p ys)) [
        | true ↦ λ k. absurd (true≢false (sym (h y k) ∙ e))
        | false ↦ λ k. any_filter p q ys h
      ] refl
    ] refl

-- an element under a function
pub in_map : {X Y : Type 0} (f : X → Y) → (xs : List X) (x : X) → In x xs → In (f x) (map f xs)
in_map f [] x h = absurd h
in_map f (y ∷ xs) x (inl same) = inl (ap f same)
in_map f (y ∷ xs) x (inr h) = inr (in_map f xs x h)

pub from_map : {X Y : Type 0} (f : X → Y) → (xs : List X) (y : Y) → In y (map f xs) → (x : X) × In x xs × (f x ≡ y)
from_map f [] y h = absurd h
from_map f (x ∷ xs) y (inl same) = (x, inl refl, sym same)
from_map f (x ∷ xs) y (inr h) = let w = from_map f xs y h in (w.0, inr w.1, w.2)

pub map_same : {X Y : Type 0} (f g : X → Y) → (xs : List X) → ((x : X) → In x xs → f x ≡ g x) → map f xs ≡ map g xs
map_same f g [] h = refl
map_same f g (x ∷ xs) h = ap (λ y. y ∷ map f xs) (h x (inl refl)) ∙ ap (λ ys. g x ∷ ys) (map_same f g xs (λ y i. h y (inr i)))

-- a list in order, and one more entry that none of the others is behind
pub ordered_push : (R : Entry → Entry → Type 0) (xs : List Entry) (x : Entry) → IsOrdered R xs → ((y : Entry) → In y xs → R y x)
    → IsOrdered R (xs ++ x ∷ [])
ordered_push R [] x o h = (tt, tt)
ordered_push R (y ∷ xs) x o h = (all_push (R y) xs x o.0 (h y (inl refl)), ordered_push R xs x o.1 (λ z i. h z (inr i)))
