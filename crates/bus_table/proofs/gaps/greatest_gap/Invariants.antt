use Rattle.std.proofs.Common.{◌≡◌, ◌≤◌, take}
use Rattle.bus_table.specs.Ranges.{most_tg}
use Rattle.bus_table.specs.Timers.{greatest_gap}
use Rattle.bus_table.proofs.gaps.greatest_gap.Given as goal

abbrev pub invariant-loop-sender : goal.invariant-loop-sender
invariant-loop-sender l = record {
  value : l.gap ≡ greatest_gap (take l.sender-index l.senders);
  most : l.gap ≤ most_tg;
}
