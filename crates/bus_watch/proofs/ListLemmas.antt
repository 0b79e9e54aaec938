-- Lists of which one item more was taken.
use Rattle.std.specs.Prelude.{slice_get, fold}
use Rattle.std.specs.List.{flat_map}
use Rattle.std.proofs.Common.{◌≡◌, ℕ, ◌+◌, List, [], ◌∷◌, ◌++◌, take, Some, ap, ◌∙◌}
use Rattle.std.proofs.Math.Seq.{take-add}
use Rattle.std.proofs.lemmas.List.Sums.{fold-append}
use Rattle.bus_strings.proofs.ListLaws.{flat_map-push, drop_at}

take_next : {X : Type 0} (xs : List X) (i : ℕ) (x : X) → slice_get xs i ≡ Some x → take (i + 1) xs ≡ take i xs ++ x ∷ []
take_next xs i x e = take-add i 1 xs ∙ ap (λ l. take i xs ++ take 1 l) (drop_at xs i x e)

pub lines_next : {X : Type 0} (f : X → List ℕ) (xs : List X) (i : ℕ) (x : X) → slice_get xs i ≡ Some x
    → flat_map f (take (i + 1) xs) ≡ flat_map f (take i xs) ++ f x
lines_next f xs i x at = ap (flat_map f) (take_next xs i x at) ∙ flat_map-push f (take i xs) x

pub fold_next : {X Y : Type 0} (f : Y → X → Y) (y : Y) (xs : List X) (i : ℕ) (x : X) → slice_get xs i ≡ Some x
    → fold f y (take (i + 1) xs) ≡ f (fold f y (take i xs)) x
fold_next f y xs i x at = ap (fold f y) (take_next xs i x at) ∙ fold-append f y (take i xs) (x ∷ [])
