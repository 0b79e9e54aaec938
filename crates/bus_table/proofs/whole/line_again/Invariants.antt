use Rattle.std.proofs.Common.{◌≡◌, ◌++◌, take, drop, length}
use Rattle.bus_table.specs.Whole.{first_again, same_pair, send_lines}
use Rattle.bus_table.specs.inside.Seen.{AreSeen}
use Rattle.bus_table.proofs.whole.line_again.Given as goal

abbrev pub invariant-loop-k : goal.invariant-loop-k
invariant-loop-k l = record {
  first : first_again same_pair (send_lines l.senders ++ take l.k l.lines) (drop l.k l.lines) ≡ first_again same_pair (send_lines l.senders) l.lines;
  all : length l.seen ≡ 4096;
  seen : AreSeen l.seen (send_lines l.senders ++ take l.k l.lines);
}
