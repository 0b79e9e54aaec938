-- Sums of what is found.
use Rattle.std.specs.Prelude.{map, sum_by}
use Rattle.std.proofs.Common.{◌≡◌, ℕ, ◌+◌, List, [], ◌∷◌, refl, sym, ap, ◌∙◌}
use Rattle.std.proofs.lemmas.List.Sums.{sum_by-cons}
use Rattle.bus_findings.specs.Judging.{judgement_of}
use Rattle.bus_findings.specs.Laws.{FaultSumIsTold}
use Rattle.bus_findings.specs.Terminals.{fault_count}

sum_of_map : {X Y : Type 0} (g : Y → ℕ) (f : X → Y) (xs : List X) → sum_by g (map f xs) ≡ sum_by (λ x. g (f x)) xs
sum_of_map g f [] = refl
sum_of_map g f (x ∷ xs) =
    sum_by-cons g (f x) (map f xs) ∙ ap (λ n. g (f x) + n) (sum_of_map g f xs) ∙ sym (sum_by-cons (λ z. g (f z)) x xs)

pub sum_is : FaultSumIsTold
sum_is bounds table list = sum_of_map fault_count (judgement_of bounds table list) list
