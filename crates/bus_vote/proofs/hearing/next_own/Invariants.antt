use Rattle.std.proofs.Common.{◌≡◌, ℕ, ◌<◌, ◌≤◌, true, Some}
use Rattle.std.specs.Prelude.{slice_get}
use Rattle.bus_vote.specs.inside.Finds.{Find, is_own}
use Rattle.bus_vote.proofs.hearing.next_own.Given as goal

-- none of the finds so far is of a round that isn't read
abbrev pub invariant-loop-at : goal.invariant-loop-at
invariant-loop-at l = (j : ℕ) (f : Find) → l.from ≤ j → j < l.at → slice_get l.finds j ≡ Some f → is_own l.label l.terminal f ≡ true → f.round < l.round
