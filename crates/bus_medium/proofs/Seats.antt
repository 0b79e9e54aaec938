-- Senders, one after another.
use Rattle.std.proofs.Common.{◌≡◌, ◌≢◌, ℕ, zero, suc, ◌<◌, Bool, true, false, ◌||◌, List, [], ◌∷◌, length, set, get_or, map, Some, None, inl, inr, arith, sym, refl, ap, ◌∙◌}
use Rattle.std.specs.Prelude.{slice_get}
use Rattle.std.specs.Option.{option_map}
use Rattle.std.specs.List.{list_any}
use Rattle.std.proofs.lemmas.Bool.{cases_order}
use Rattle.std.proofs.lemmas.List.{length-map}
use Rattle.std.proofs.lemmas.Option.{slice_get_within, slice_get-map, get_or_from_slice_get}
use Rattle.bus_strings.specs.Members.{In}
use Rattle.bus_strings.proofs.MemberLaws.{at_in}
use Rattle.bus_medium.specs.Lawful.{Station, HaveOwnNumbers}
use Rattle.bus_medium.specs.Buses.{Seat, station_of, number_of}
use Rattle.bus_medium.specs.Orders.{IsByNumber}

pub get_set_same : {X : Type 0} → (xs : List X) (i : ℕ) (y : X) → i < length xs → slice_get (set xs i y) i ≡ Some y
get_set_same [] i y h = absurd (omega arith)
get_set_same (x ∷ xs) zero y h = refl
get_set_same (x ∷ xs) (suc i) y h = get_set_same xs i y (omega arith)

pub get_set_other : {X : Type 0} → (xs : List X) (i j : ℕ) (y : X) → i ≢ j → slice_get (set xs i y) j ≡ slice_get xs j
get_set_other [] i j y h = refl
get_set_other (x ∷ xs) zero zero y h = absurd (h refl)
get_set_other (x ∷ xs) zero (suc j) y h = refl
get_set_other (x ∷ xs) (suc i) zero y h = refl
get_set_other (x ∷ xs) (suc i) (suc j) y h = get_set_other xs i j y (λ e. h (ap suc e))

pub any_at : {X : Type 0} (p : X → Bool) → (xs : List X) (j : ℕ) (x : X) → slice_get xs j ≡ Some x → p x ≡ true → list_any p xs ≡ true
any_at p [] j x h e = absurd (let k : None ≡ Some x = h in cc)
any_at p (y ∷ ys) zero x h e = let same : y ≡ x = cc in rw (ap p same ∙ e) refl
any_at p (y ∷ ys) (suc j) x h e = elim (p y) as (λ b. (b || list_any p ys) ≡ true) [ true ↦ refl | false ↦ any_at p ys j x h e ]

pub same_some : {X : Type 0} (x y : X) → Some x ≡ Some y → x ≡ y
same_some x y h = cc

pub map_set_same : {X Y : Type 0} (f : X → Y) → (xs : List X) (i : ℕ) (x y : X) → slice_get xs i ≡ Some x → f y ≡ f x → map f (set xs i y) ≡ map f xs
map_set_same f [] i x y h e = refl
map_set_same f (z ∷ zs) zero x y h e = let same : z ≡ x = cc in ap (λ w. w ∷ map f zs) (e ∙ ap f (sym same))
map_set_same f (z ∷ zs) (suc i) x y h e = ap (λ ws. f z ∷ ws) (map_set_same f zs i x y h e)

pub record Mapped {X Y : Type 0} (f : X → Y) (xs : List X) (y : Y) : Type 0 where
  pub element : X
  pub place : ℕ
  pub at : slice_get xs place ≡ Some element
  pub same : f element ≡ y

pub from_map : {X Y : Type 0} (f : X → Y) → (xs : List X) (y : Y) → In y (map f xs) → Mapped f xs y
from_map f [] y h = absurd h
from_map f (x ∷ xs) y (inl same) = record { element = x; place = 0; at = refl; same = sym same }
from_map f (x ∷ xs) y (inr h) = let m = from_map f xs y h in record { element = m.element; place = suc m.place; at = m.at; same = m.same }

pub map_at : {X Y : Type 0} (f : X → Y) → (xs : List X) (j : ℕ) (x : X) → slice_get xs j ≡ Some x → slice_get (map f xs) j ≡ Some (f x)
map_at f xs j x h = slice_get-map f xs j ∙ ap (option_map f) h

pub in_map : {X Y : Type 0} (f : X → Y) → (xs : List X) (j : ℕ) (x : X) → slice_get xs j ≡ Some x → In (f x) (map f xs)
in_map f xs j x h = at_in (map f xs) j (f x) (map_at f xs j x h)

pub number_at : {C : Type 0} (xs : List (Seat C)) (j : ℕ) (x : Seat C) → slice_get xs j ≡ Some x → get_or (map number_of xs) j 0 ≡ number_of x
number_at xs j x h = get_or_from_slice_get (map number_of xs) j (number_of x) 0 (map_at number_of xs j x h)

-- the numbers of senders are those of their stations
pub same_numbers : {C : Type 0} (xs ys : List (Seat C)) → map station_of ys ≡ map station_of xs → map number_of ys ≡ map number_of xs
same_numbers [] [] h = refl
same_numbers [] (y ∷ ys) h = absurd (cc)
same_numbers (x ∷ xs) [] h = absurd (cc)
same_numbers (x ∷ xs) (y ∷ ys) h =
    let head : station_of y ≡ station_of x = cc in
    let tail : map station_of ys ≡ map station_of xs = cc in
    ap (λ n. n ∷ map number_of ys) (ap (λ (s : Station). s.number) head) ∙ ap (λ ns. number_of x ∷ ns) (same_numbers xs ys tail)

-- senders that stand by number have numbers of their own
pub own_numbers : {C : Type 0} (xs : List (Seat C)) (places : List ℕ) → IsByNumber (map number_of xs) places → HaveOwnNumbers (map station_of xs)
own_numbers xs places o a b a_in b_in same =
    let x = from_map station_of xs a a_in in
    let y = from_map station_of xs b b_in in
    let len : length (map number_of xs) ≡ length xs = length-map xs number_of in
    let within_x : x.place < length xs = slice_get_within xs x.place x.element x.at in
    let within_y : y.place < length xs = slice_get_within xs y.place y.element y.at in
    let i = o.whole x.place (omega arith) in
    let j = o.whole y.place (omega arith) in
    let number_x : get_or (map number_of xs) x.place 0 ≡ a.number = number_at xs x.place x.element x.at ∙ ap (λ (s : Station). s.number) x.same in
    let number_y : get_or (map number_of xs) y.place 0 ≡ b.number = number_at xs y.place y.element y.at ∙ ap (λ (s : Station). s.number) y.same in
    elim (cases_order i.0 j.0) [
      | inl at_once ↦
          let places_same : Some x.place ≡ Some y.place = sym i.1 ∙ ap (slice_get places) at_once ∙ j.1 in
          let place : x.place ≡ y.place = cc in
          let elements : x.element ≡ y.element = same_some x.element y.element (sym x.at ∙ ap (slice_get xs) place ∙ y.at) in
          sym x.same ∙ ap station_of elements ∙ y.same
      | inr apart ↦ elim apart [
        | inl less ↦ let k : get_or (map number_of xs) x.place 0 < get_or (map number_of xs) y.place 0 = o.rising i.0 j.0 x.place y.place less i.1 j.1 in absurd (omega arith)
        | inr more ↦ let k : get_or (map number_of xs) y.place 0 < get_or (map number_of xs) x.place 0 = o.rising j.0 i.0 y.place x.place more j.1 i.1 in absurd (omega arith)
      ]
    ]
