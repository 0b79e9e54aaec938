-- Lists of lists that are put together.
use Rattle.std.proofs.Common.{◌≡◌, Bool, true, false, cond, List, [], ◌∷◌, ◌++◌, map, refl, ap, ◌∙◌}
use Rattle.std.specs.List.{filter, flat_map}
use Rattle.std.proofs.lemmas.List.Concat.{flat_map-append}

pub flat_map-flat_map : {X Y A : Type 0} (f : Y → List A) (g : X → List Y) (xs : List X) → flat_map f (flat_map g xs) ≡ flat_map (λ x. flat_map f (g x)) xs
flat_map-flat_map f g [] = refl
flat_map-flat_map f g (x ∷ xs) = flat_map-append f (g x) (flat_map g xs) ∙ ap (λ t. flat_map f (g x) ++ t) (flat_map-flat_map f g xs)

passing_by : {X Y A : Type 0} (t : Bool) (f : Y → List A) (g : X → Y) (x : X) (xs : List X) (rest : List A) → rest ≡ flat_map f (map g xs) → cond t (f (g x)) [] ++ rest ≡ flat_map f (map g (cond t (x ∷ xs) xs))
passing_by true f g x xs rest e = ap (λ r. f (g x) ++ r) e
passing_by false f g x xs rest e = e

-- those that pass a test, each changed
pub flat_map-passing : {X Y A : Type 0} (p : X → Bool) (f : Y → List A) (g : X → Y) (xs : List X) → flat_map (λ x. cond (p x) (f (g x)) []) xs ≡ flat_map f (map g (filter p xs))
flat_map-passing p f g [] = refl
flat_map-passing p f g (x ∷ xs) = passing_by (p x) f g x (filter p xs) _ (flat_map-passing p f g xs)
