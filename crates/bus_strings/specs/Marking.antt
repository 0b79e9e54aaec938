-- How far a walk over a list has come that tells of each transmission whether it is garbled.
use Rattle.std.specs.Prelude.{◌≡◌, ℕ, ◌≤◌, max, List, fold, length, take}
use Rattle.bus_strings.specs.Messages.{Entry}
use Rattle.bus_strings.specs.Transmissions.{end_of, IsByMoment}

-- The greatest moment at which a transmission of the list ends, and 0 where there is none.
abbrev pub greatest_end : List Entry → ℕ
greatest_end list = fold (λ end x. max end (end_of x)) 0 list

-- The first `at` transmissions of a list that is ordered by moment are behind, and the last of them to end does so at `end`.
pub record IsMarking (list : List Entry) (at end : ℕ) : Type 0 where
  pub order : IsByMoment list
  pub within : at ≤ length list
  pub ends : end ≡ greatest_end (take at list)
