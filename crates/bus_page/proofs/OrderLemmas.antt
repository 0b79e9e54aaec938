-- The lines on items, one after another.
use Rattle.std.specs.Prelude.{◌≡◌, ℕ, ◌+◌, ◌<◌, List, ◌++◌, length, slice_get, Some}
use Rattle.std.specs.List.{flat_map}
use Rattle.std.proofs.Common.{arith, ap, ◌∙◌, take}
use Rattle.std.proofs.lemmas.List.{take_all}
use Rattle.std.proofs.lemmas.Option.{get_or_from_slice_get}
use Rattle.bus_strings.proofs.ListLaws.{flat_map-next}

-- the same of one that stands there
pub next_line : {X : Type 0} (f : X → List ℕ) (xs : List X) (i : ℕ) (x : X) → i < length xs → slice_get xs i ≡ Some x
    → flat_map f (take (i + 1) xs) ≡ flat_map f (take i xs) ++ f x
next_line f xs i x below at = flat_map-next f xs i x below ∙ ap (λ y. flat_map f (take i xs) ++ f y) (get_or_from_slice_get xs i x x at)

-- all of them
pub all_lines : {X : Type 0} (f : X → List ℕ) (xs : List X) (i : ℕ) → i ≡ length xs → flat_map f (take i xs) ≡ flat_map f xs
all_lines f xs i whole = ap (λ n. flat_map f (take n xs)) whole ∙ ap (flat_map f) (take_all (length xs) xs (omega arith))
