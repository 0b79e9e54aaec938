use Rattle.std.proofs.Common.{◌≡◌, [], take, drop}
use Rattle.bus_table.specs.Whole.{first_again, same_pair, send_lines}
use Rattle.bus_table.specs.inside.Seen.{AreSeen}
use Rattle.bus_table.proofs.whole.pair_twice.Given as goal

abbrev pub invariant-loop-k : goal.invariant-loop-k
invariant-loop-k l = record {
  first : first_again same_pair (send_lines (take l.k l.senders)) (send_lines (drop l.k l.senders)) ≡ first_again same_pair [] (send_lines l.senders);
  seen : AreSeen l.seen (send_lines (take l.k l.senders));
}
