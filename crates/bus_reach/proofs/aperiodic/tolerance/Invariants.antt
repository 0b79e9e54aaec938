use Rattle.std.proofs.Common.{take}
use Rattle.bus_reach.specs.Tolerance.{leaves_room}
use Rattle.bus_reach.proofs.RoomLemmas.{IsRoom}
use Rattle.bus_reach.proofs.aperiodic.tolerance.Given as goal

-- what the senders so far leave
abbrev pub invariant-loop-a : goal.invariant-loop-a
invariant-loop-a l = IsRoom (λ d b. leaves_room d l.sg l.senders b) (take l.a-index l.senders) 256 l.room
