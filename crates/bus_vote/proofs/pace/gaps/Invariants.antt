use Rattle.std.proofs.Common.{◌≡◌, length}
use Rattle.bus_vote.proofs.PaceLemmas.{IsSpacing}
use Rattle.bus_vote.proofs.pace.gaps.Given as goal

-- the transmissions so far are spaced
abbrev pub invariant-loop-at : goal.invariant-loop-at
invariant-loop-at l = record {
  gaps_long : length l.gaps ≡ 129;
  behind_long : length l.behind ≡ 129;
  spacing : IsSpacing l.list l.at l.gaps l.behind;
}
