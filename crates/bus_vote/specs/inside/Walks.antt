-- How far a walk over the transmissions of a terminal in a list has come, and what it may pass over.
use Rattle.std.specs.Prelude.{◌≡◌, ◌⊎◌, ℕ, ◌+◌, ◌<◌, ◌≤◌, nat_lt, Bool, false, List, [], length, take, drop, slice_get, Option, Some, None}
use Rattle.std.specs.List.{filter, zip, list_any, AllByRecursion}
use Rattle.std.specs.Option.{option_and_then}
use Rattle.bus_strings.specs.Messages.{Entry}
use Rattle.bus_strings.specs.Transmissions.{end_of, garbled, marks, IsByMoment}
use Rattle.bus_vote.specs.Rounds.{is_of}

-- A list as a bus has it: it is ordered by moment, and each message has wordstrings.
pub record IsSent (list : List Entry) : Type 0 where
  pub order : IsByMoment list
  pub some : AllByRecursion (λ y. 0 < length y.message) list

-- The transmissions of a terminal from a place of the list on, each marked where it is garbled.
abbrev pub sent_from : ℕ → List Entry → ℕ → List (Entry × Bool)
sent_from terminal list at = filter (is_of terminal) (zip (drop at list) (drop at (marks list)))

-- One of these transmissions ends behind a moment exactly where the moment is below this number: it is the greatest of their ends.
abbrev pub IsReach : List Entry → ℕ → Type 0
IsReach list reach = (moment : ℕ) → list_any (λ y. nat_lt moment (end_of y)) list ≡ nat_lt moment reach

-- No transmission is garbled.
abbrev pub IsClear : List Entry → Type 0
IsClear list = (place : ℕ) → place < length list → garbled list place ≡ false

-- Two transmissions of a terminal stand at least so many places apart.
abbrev pub IsSpaced : ℕ → ℕ → List Entry → Type 0
IsSpaced terminal gap list =
    (i j : ℕ) (x y : Entry) → i < j → slice_get list i ≡ Some x → slice_get list j ≡ Some y → x.terminal ≡ terminal → y.terminal ≡ terminal
    → i + gap ≤ j

-- A walk over a terminal's transmissions may pass over so many places: nothing is garbled, and they are spaced.
pub record IsPace (list : List Entry) (terminal gap : ℕ) : Type 0 where
  pub clear : IsClear list
  pub spaced : IsSpaced terminal gap list

-- The gap of a terminal, where there are gaps.
abbrev pub gap_in : Option (List ℕ) → ℕ → Option ℕ
gap_in gaps terminal = option_and_then (λ list. slice_get list terminal) gaps

-- There are no gaps, or with each of them a walk may go.
abbrev pub ArePaces : List Entry → Option (List ℕ) → Type 0
ArePaces list gaps = (terminal gap : ℕ) → gap_in gaps terminal ≡ Some gap → IsPace list terminal gap

-- A walk has come to a place. Without a gap it knows how far the transmissions before it reach.
pub record IsWalk (list : List Entry) (terminal : ℕ) (gap : Option ℕ) (at reach : ℕ) : Type 0 where
  pub sent : IsSent list
  pub pace : (places : ℕ) → gap ≡ Some places → IsPace list terminal places
  pub ends : gap ≡ None → at < length list → IsReach (take at list) reach

-- Two of three walks have nothing left.
abbrev pub TwoAreOver : {X : Type 0} → List X → List X → List X → Type 0
TwoAreOver a b c = ((a ≡ []) × (b ≡ [])) ⊎ (((a ≡ []) × (c ≡ [])) ⊎ ((b ≡ []) × (c ≡ [])))
