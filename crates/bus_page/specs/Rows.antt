-- Rows, one below the other.
use Rattle.std.specs.Prelude.{ℕ, ◌+◌, List, [], ◌∷◌, ◌++◌}

-- The rows of these, of which the first stands here, and each other so far below the one before it.
abbrev pub rows : {X : Type 0} → (ℕ → X → List ℕ) → (apart top : ℕ) → List X → List ℕ
rows form apart top [] = []
rows form apart top (x ∷ xs) = form top x ++ rows form apart (top + apart) xs
