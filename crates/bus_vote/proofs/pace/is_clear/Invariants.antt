use Rattle.std.proofs.Common.{◌≡◌, ℕ, ◌<◌, false, take}
use Rattle.bus_strings.specs.Transmissions.{garbled}
use Rattle.bus_vote.specs.inside.Walks.{IsReach}
use Rattle.bus_vote.proofs.pace.is_clear.Given as goal

-- none of the transmissions so far is garbled
abbrev pub invariant-loop-at : goal.invariant-loop-at
invariant-loop-at l = record {
  ends : IsReach (take l.at l.list) l.reach;
  clear : (place : ℕ) → place < l.at → garbled l.list place ≡ false;
}
