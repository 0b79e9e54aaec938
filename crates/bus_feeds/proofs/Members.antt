-- What stands in a list that is made of another.
use Rattle.std.proofs.Common.{arith, zero, suc, ◌≡◌, Bool, true, false, cond, List, [], ◌∷◌, ◌++◌, map, refl, ap, sym, subst, ◌∙◌, inl, inr, ◌⊎◌}
use Rattle.std.specs.List.{Contains, filter, flat_map, zip, list_any}
use Rattle.std.proofs.lemmas.List.Elements.{Contains-append_left, Contains-append_right, Contains-append_cases}
use Rattle.std.proofs.lemmas.List.Folds.{list_any-from_Any}

pub here : {X : Type 0} (x : X) (xs : List X) → Contains (x ∷ xs) x
here x xs = (0, omega arith, refl)

first : {X : Type 0} (y : X) (xs : List X) (x : X) → y ≡ x → Contains (y ∷ xs) x
first y xs x e = (0, omega arith, e)

pub behind : {X : Type 0} (y : X) (xs : List X) (x : X) → Contains xs x → Contains (y ∷ xs) x
behind y xs x (k, h, e) = (suc k, omega arith, e)

pub cases : {X : Type 0} (y : X) (xs : List X) (x : X) → Contains (y ∷ xs) x → (y ≡ x) ⊎ Contains xs x
cases y xs x (zero, h, e) = inl e
cases y xs x (suc k, h, e) = inr (k, omega arith, e)

pub nobody : {X : Type 0} (x : X) → Contains [] x → ⊥
nobody x (k, h, e) = omega arith

-- ---- map
-- where y comes from
pub record FromMap {X Y : Type 0} (f : X → Y) (xs : List X) (y : Y) : Type 0 where
  pub x : X
  pub stands : Contains xs x
  pub gives : f x ≡ y

map_step : {X Y : Type 0} (f : X → Y) (x : X) (xs : List X) (y : Y) → (Contains (map f xs) y → FromMap f xs y) → (f x ≡ y) ⊎ Contains (map f xs) y → FromMap f (x ∷ xs) y
map_step f x xs y next (inl e) = record { x = x; stands = here x xs; gives = e }
map_step f x xs y next (inr v) = let u = next v in record { x = u.x; stands = behind x xs u.x u.stands; gives = u.gives }

pub from_map : {X Y : Type 0} (f : X → Y) (xs : List X) (y : Y) → Contains (map f xs) y → FromMap f xs y
from_map f [] y w = absurd (nobody y w)
from_map f (x ∷ xs) y w = map_step f x xs y (from_map f xs y) (cases (f x) (map f xs) y w)

mapped_step : {X Y : Type 0} (f : X → Y) (y : X) (xs : List X) (x : X) → (Contains xs x → Contains (map f xs) (f x)) → (y ≡ x) ⊎ Contains xs x → Contains (f y ∷ map f xs) (f x)
mapped_step f y xs x next (inl e) = first (f y) (map f xs) (f x) (ap f e)
mapped_step f y xs x next (inr v) = behind (f y) (map f xs) (f x) (next v)

pub to_map : {X Y : Type 0} (f : X → Y) (xs : List X) (x : X) → Contains xs x → Contains (map f xs) (f x)
to_map f [] x w = absurd (nobody x w)
to_map f (y ∷ xs) x w = mapped_step f y xs x (to_map f xs x) (cases y xs x w)

-- ---- filter
pub record Passes {X : Type 0} (p : X → Bool) (xs : List X) (x : X) : Type 0 where
  pub stands : Contains xs x
  pub passes : p x ≡ true

passes_behind : {X : Type 0} (p : X → Bool) (y : X) (xs : List X) (x : X) → Passes p xs x → Passes p (y ∷ xs) x
passes_behind p y xs x u = record { stands = behind y xs x u.stands; passes = u.passes }

passes_first : {X : Type 0} (p : X → Bool) (y : X) (xs : List X) (x : X) → p y ≡ true → (Contains (filter p xs) x → Passes p xs x) → (y ≡ x) ⊎ Contains (filter p xs) x → Passes p (y ∷ xs) x
passes_first p y xs x t next (inl e) = record { stands = first y xs x e; passes = ap p (sym e) ∙ t }
passes_first p y xs x t next (inr v) = passes_behind p y xs x (next v)

passes_step : {X : Type 0} (p : X → Bool) (y : X) (xs : List X) (x : X) (b : Bool) → p y ≡ b → (Contains (filter p xs) x → Passes p xs x) → Contains (cond b (y ∷ filter p xs) (filter p xs)) x → Passes p (y ∷ xs) x
passes_step p y xs x true t next w = passes_first p y xs x t next (cases y (filter p xs) x w)
passes_step p y xs x false t next w = passes_behind p y xs x (next w)

pub from_filter : {X : Type 0} (p : X → Bool) (xs : List X) (x : X) → Contains (filter p xs) x → Passes p xs x
from_filter p [] x w = absurd (nobody x w)
from_filter p (y ∷ xs) x w = passes_step p y xs x (p y) refl (from_filter p xs x) w

kept_step : {X : Type 0} (p : X → Bool) (y : X) (xs : List X) (x : X) (b : Bool) → p y ≡ b → p x ≡ true → (Contains xs x → Contains (filter p xs) x) → (y ≡ x) ⊎ Contains xs x → Contains (cond b (y ∷ filter p xs) (filter p xs)) x
kept_step p y xs x true t h next (inl e) = first y (filter p xs) x e
kept_step p y xs x true t h next (inr v) = behind y (filter p xs) x (next v)
kept_step p y xs x false t h next (inl e) = absurd (let wrong : false ≡ true = sym t ∙ ap p e ∙ h in cc)
kept_step p y xs x false t h next (inr v) = next v

pub to_filter : {X : Type 0} (p : X → Bool) (xs : List X) (x : X) → Contains xs x → p x ≡ true → Contains (filter p xs) x
to_filter p [] x w h = absurd (nobody x w)
to_filter p (y ∷ xs) x w h = kept_step p y xs x (p y) refl h (λ v. to_filter p xs x v h) (cases y xs x w)

-- one that doesn't pass may be left out
pub filter_without : {X : Type 0} (p : X → Bool) (xs : List X) (x : X) (ys : List X) → p x ≡ false → filter p (xs ++ x ∷ ys) ≡ filter p (xs ++ ys)
filter_without p [] x ys h = ap (λ b. cond b (x ∷ filter p ys) (filter p ys)) h
filter_without p (y ∷ xs) x ys h = ap (λ l. cond (p y) (y ∷ l) l) (filter_without p xs x ys h)

-- ---- flat_map
pub record FromEach {X Y : Type 0} (f : X → List Y) (xs : List X) (y : Y) : Type 0 where
  pub x : X
  pub stands : Contains xs x
  pub gives : Contains (f x) y

each_step : {X Y : Type 0} (f : X → List Y) (x : X) (xs : List X) (y : Y) → (Contains (flat_map f xs) y → FromEach f xs y) → Contains (f x) y ⊎ Contains (flat_map f xs) y → FromEach f (x ∷ xs) y
each_step f x xs y next (inl v) = record { x = x; stands = here x xs; gives = v }
each_step f x xs y next (inr v) = let u = next v in record { x = u.x; stands = behind x xs u.x u.stands; gives = u.gives }

pub from_flat_map : {X Y : Type 0} (f : X → List Y) (xs : List X) (y : Y) → Contains (flat_map f xs) y → FromEach f xs y
from_flat_map f [] y w = absurd (nobody y w)
from_flat_map f (x ∷ xs) y w = each_step f x xs y (from_flat_map f xs y) (Contains-append_cases (f x) (flat_map f xs) y w)

given_step : {X Y : Type 0} (f : X → List Y) (z : X) (xs : List X) (x : X) (y : Y) → Contains (f x) y → (Contains xs x → Contains (flat_map f xs) y) → (z ≡ x) ⊎ Contains xs x → Contains (f z ++ flat_map f xs) y
given_step f z xs x y h next (inl e) = Contains-append_left (f z) (flat_map f xs) y (subst (λ u. Contains (f u) y) (sym e) h)
given_step f z xs x y h next (inr v) = Contains-append_right (f z) (flat_map f xs) y (next v)

pub to_flat_map : {X Y : Type 0} (f : X → List Y) (xs : List X) (x : X) (y : Y) → Contains xs x → Contains (f x) y → Contains (flat_map f xs) y
to_flat_map f [] x y w h = absurd (nobody x w)
to_flat_map f (z ∷ xs) x y w h = given_step f z xs x y h (λ v. to_flat_map f xs x y v h) (cases z xs x w)

-- two that give the same of each that stands in the list
pub same_flat_map : {X Y : Type 0} (f g : X → List Y) (xs : List X) → ((x : X) → Contains xs x → f x ≡ g x) → flat_map f xs ≡ flat_map g xs
same_flat_map f g [] h = refl
same_flat_map f g (x ∷ xs) h =
    ap (λ l. l ++ flat_map f xs) (h x (here x xs)) ∙ ap (λ l. g x ++ l) (same_flat_map f g xs (λ y w. h y (behind x xs y w)))

-- ---- zip
zip_step : {X Y : Type 0} (x : X) (y : Y) (xs : List X) (ys : List Y) (p : X × Y) → (Contains (zip xs ys) p → Contains xs p.0) → ((x, y) ≡ p) ⊎ Contains (zip xs ys) p → Contains (x ∷ xs) p.0
zip_step {X} {Y} x y xs ys p next (inl e) = first x xs p.0 (ap (λ (q : X × Y). q.0) e)
zip_step x y xs ys p next (inr v) = behind x xs p.0 (next v)

pub from_zip : {X Y : Type 0} (xs : List X) (ys : List Y) (p : X × Y) → Contains (zip xs ys) p → Contains xs p.0
from_zip [] ys p w = absurd (nobody p w)
from_zip (x ∷ xs) [] p w = absurd (nobody p w)
from_zip (x ∷ xs) (y ∷ ys) p w = zip_step x y xs ys p (from_zip xs ys p) (cases (x, y) (zip xs ys) p w)

-- ---- tests
-- one that passes is enough
pub any_of : {X : Type 0} (p : X → Bool) (xs : List X) (x : X) → Contains xs x → p x ≡ true → list_any p xs ≡ true
any_of p xs x (k, l, e) h = list_any-from_Any p xs (k, x, l, e, h)

pub bool_cases : (b : Bool) → (b ≡ true → ⊥) → b ≡ false
bool_cases true h = absurd (h refl)
bool_cases false h = refl
