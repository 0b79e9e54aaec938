use Rattle.std.proofs.Common.{take}
use Rattle.bus_advice.proofs.StartSteps.{IsEnough}
use Rattle.bus_advice.proofs.starting.greatest_start.Given as goal

-- the greatest number that is enough for the senders so far
abbrev pub invariant-loop-sender : goal.invariant-loop-sender
invariant-loop-sender l = IsEnough l.sg (take l.sender-index l.sender-items) l.table.ti l.most
