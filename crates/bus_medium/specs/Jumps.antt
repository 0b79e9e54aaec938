-- How often the cores of a bus were moved.
use Rattle.std.specs.Prelude.{◌≡◌, ℕ, ◌+◌, ◌≤◌, List, length, slice_get, Some}
use Rattle.bus_timers.specs.declared.cores.Core.{Ghosts}
use Rattle.bus_medium.specs.Buses.{Seat}

-- R holds of the elements at each place of two lists of one length.
pub record Each {X : Type 0} (R : X → X → Type 0) (xs ys : List X) : Type 0 where
  pub same_length : length ys ≡ length xs
  pub each : (j : ℕ) (x y : X) → slice_get xs j ≡ Some x → slice_get ys j ≡ Some y → R x y

-- Each core was moved at most n times.
abbrev pub Moved : {C : Type 0} → Ghosts C → ℕ → List (Seat C) → List (Seat C) → Type 0
Moved core n xs ys = Each (λ x y. core.moves y.terminal.core ≤ core.moves x.terminal.core + n) xs ys
