use Rattle.std.proofs.Common.{◌≡◌, ℕ, ◌<◌, length}
use Rattle.bus_regime.specs.Ends.{IsEnd}
use Rattle.bus_regime.proofs.gaps.turn_ends.Given as goal

-- the ends so far are told
abbrev pub invariant-loop-k : goal.invariant-loop-k
invariant-loop-k l = record {
  all : length l.ends ≡ 128;
  told : (i : ℕ) → i < l.k → IsEnd l.table l.ends i;
}
