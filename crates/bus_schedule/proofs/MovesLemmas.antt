-- The moves of the cores of a bus since it was settled.
use Rattle.std.proofs.Common.{◌≡◌, ℕ, zero, suc, ◌+◌, ◌<◌, ◌≤◌, List, [], ◌∷◌, length, Some, arith, refl}
use Rattle.std.specs.Prelude.{slice_get}
use Rattle.std.specs.List.{AllByRecursion}
use Rattle.std.proofs.lemmas.Option.{slice_get_within}
use Rattle.bus_timers.specs.declared.cores.Core.{Ghosts}
use Rattle.bus_medium.specs.Buses.{Seat}
use Rattle.bus_medium.specs.Jumps.{Moved}

at_place : {X : Type 0} (P : X → Type 0) (xs : List X) (j : ℕ) → AllByRecursion P xs → j < length xs → (x : X) × (slice_get xs j ≡ Some x) × P x
at_place P [] j all h = absurd (omega arith)
at_place P (x ∷ xs) zero all h = (x, refl, all.0)
at_place P (x ∷ xs) (suc j) all h = at_place P xs j all.1 (omega arith)

pub moves_since : {C : Type 0} (core : Ghosts C) (n : ℕ) (xs ys : List (Seat C)) → AllByRecursion (λ s. core.moves s.terminal.core ≡ 0) xs → Moved core n xs ys
    → (k : ℕ) (seat : Seat C) → slice_get ys k ≡ Some seat → core.moves seat.terminal.core ≤ n
moves_since core n xs ys none moved k seat at =
    let within : k < length ys = slice_get_within ys k seat at in
    let len : length ys ≡ length xs = moved.same_length in
    let x = at_place (λ (s : Seat _). core.moves s.terminal.core ≡ 0) xs k none (omega arith) in
    let zero_moves : core.moves x.0.terminal.core ≡ 0 = x.2 in
    let few : core.moves seat.terminal.core ≤ core.moves x.0.terminal.core + n = moved.each k x.0 seat x.1 at in
    omega arith
