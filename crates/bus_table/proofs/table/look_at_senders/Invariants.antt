use Rattle.std.proofs.Common.{◌≡◌, true, take}
use Rattle.std.specs.List.{list_all}
use Rattle.bus_table.specs.Ranges.{is_sender}
use Rattle.bus_table.proofs.table.look_at_senders.Given as goal

abbrev pub invariant-loop-sender : goal.invariant-loop-sender
invariant-loop-sender l = list_all is_sender (take l.sender-index l.senders) ≡ true
