use Rattle.std.proofs.Common.{◌≡◌, take}
use Rattle.bus_table.proofs.periodic.copied_senders.Given as goal

abbrev pub invariant-loop-sender : goal.invariant-loop-sender
invariant-loop-sender l = l.made.items ≡ take l.sender-index l.senders
