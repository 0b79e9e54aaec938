use Rattle.std.proofs.Common.{take}
use Rattle.bus_reach.proofs.RoomLemmas.{IsRoom}
use Rattle.bus_facts.proofs.StartLemmas.{is_waited}
use Rattle.bus_facts.proofs.starts.greatest_start.Given as goal

-- no longer than what the senders so far wait
abbrev pub invariant-loop-sender : goal.invariant-loop-sender
invariant-loop-sender l = IsRoom (is_waited l.sg) (take l.sender-index l.sender-items) 128000 l.most
