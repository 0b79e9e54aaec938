use Rattle.std.proofs.Common.{◌≡◌, length}
use Rattle.bus_dump.proofs.SendingLemmas.{KeepsSending}
use Rattle.bus_dump.proofs.lanes.sending_of.Given as goal

-- it is kept which terminals send so far
abbrev pub invariant-loop-k : goal.invariant-loop-k
invariant-loop-k l = record {
  long : length l.sending ≡ 129;
  keeps : KeepsSending l.list l.sending l.k;
}
