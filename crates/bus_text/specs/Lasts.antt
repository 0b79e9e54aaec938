-- A number of what stands last in a list.
use Rattle.std.specs.Prelude.{ℕ, List, [], ◌∷◌}

-- A number of the last of these, and 0 where there is none.
abbrev pub of_last : {X : Type 0} → (X → ℕ) → List X → ℕ
of_last number [] = 0
of_last number (last ∷ []) = number last
of_last number (first ∷ next ∷ others) = of_last number (next ∷ others)
