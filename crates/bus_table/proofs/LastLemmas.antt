-- The last of some.
use Rattle.std.proofs.Common.{arith, zero, suc, ◌≡◌, ℕ, List, [], ◌∷◌, length, get_or, set, sym, ap, ◌∙◌}
use Rattle.bus_table.specs.Drafts.{of_last, with_last}

-- the last one is set to what it is changed to
pub set_last : {X : Type 0} (change : X → X) (xs : List X) (i : ℕ) (old new : X) → suc i ≡ length xs → old ≡ get_or xs i old → new ≡ change old → set xs i new ≡ with_last change xs
set_last change [] i old new e h k = absurd (omega arith)
set_last change (x ∷ []) zero old new e h k = ap (λ n. n ∷ []) (k ∙ ap change h)
set_last change (x ∷ []) (suc i) old new e h k = absurd (omega arith)
set_last change (x ∷ y ∷ xs) zero old new e h k = absurd (omega arith)
set_last change (x ∷ y ∷ xs) (suc i) old new e h k = ap (λ zs. x ∷ zs) (set_last change (y ∷ xs) i old new (omega arith) h k)

pub last_is : {X : Type 0} (count : X → ℕ) (xs : List X) (i : ℕ) (last : X) → suc i ≡ length xs → last ≡ get_or xs i last → of_last count xs ≡ count last
last_is count [] i last e h = absurd (omega arith)
last_is count (x ∷ []) zero last e h = ap count (sym h)
last_is count (x ∷ []) (suc i) last e h = absurd (omega arith)
last_is count (x ∷ y ∷ xs) zero last e h = absurd (omega arith)
last_is count (x ∷ y ∷ xs) (suc i) last e h = last_is count (y ∷ xs) i last (omega arith) h
