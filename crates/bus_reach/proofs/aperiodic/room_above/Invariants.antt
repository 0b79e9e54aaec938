use Rattle.std.proofs.Common.{take}
use Rattle.bus_reach.proofs.RoomLemmas.{IsRoom, clears}
use Rattle.bus_reach.proofs.aperiodic.room_above.Given as goal

-- the room beside the senders so far
abbrev pub invariant-loop-b : goal.invariant-loop-b
invariant-loop-b l = IsRoom (clears l.gap) (take l.b-index l.senders) l.most l.room
