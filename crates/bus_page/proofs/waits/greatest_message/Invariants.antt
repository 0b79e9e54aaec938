use Rattle.std.proofs.Common.{◌≡◌, ◌≤◌, ◌^◌, take}
use Rattle.bus_page.specs.Waits.{greatest_message}
use Rattle.bus_page.proofs.waits.greatest_message.Given as goal

abbrev pub invariant-loop-sender : goal.invariant-loop-sender
invariant-loop-sender l = record {
  value : l.most ≡ greatest_message (take l.sender-index l.senders);
  bound : l.most ≤ 2 ^ 40;
}
