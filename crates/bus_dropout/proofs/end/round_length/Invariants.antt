use Rattle.std.proofs.Common.{◌≡◌, ◌*◌, ◌^◌, ◌≤◌, take}
use Rattle.std.specs.List.{sum_by}
use Rattle.bus_schedule.specs.Even.{messages_of}
use Rattle.bus_dropout.proofs.RoundLemmas.{has_left, turn_length}
use Rattle.bus_dropout.proofs.Sums.{share}
use Rattle.bus_dropout.proofs.end.round_length.Given as goal

-- the turns so far, with room for more than there can be
abbrev pub invariant-loop-k : goal.invariant-loop-k
invariant-loop-k l = record {
  sum : l.sum ≡ sum_by (share (has_left (messages_of l.hands) l.round) (turn_length (messages_of l.hands) l.round)) (take l.k l.sender-items);
  most : l.sum ≤ 2 ^ 33 * l.k;
}
