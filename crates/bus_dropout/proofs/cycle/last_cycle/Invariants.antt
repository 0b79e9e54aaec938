use Rattle.std.proofs.Common.{◌≡◌, ◌+◌, ◌*◌, ◌^◌, ◌≤◌, take}
use Rattle.std.specs.List.{sum_by}
use Rattle.bus_dropout.proofs.LongLemmas.{turn, is_last}
use Rattle.bus_dropout.proofs.Sums.{share}
use Rattle.bus_dropout.proofs.cycle.last_cycle.Given as goal

-- the cycle so far, with room for more than there can be
abbrev pub invariant-loop-k : goal.invariant-loop-k
invariant-loop-k l = record {
  sum : l.least ≡ l.table.sg + sum_by (share (is_last l.hands) turn) (take l.k l.sender-items);
  most : l.least ≤ 2 ^ 33 * (l.k + 1);
}
