use Rattle.std.proofs.Common.{◌≡◌, true, take}
use Rattle.std.specs.List.{list_all}
use Rattle.bus_reach.specs.Tolerance.{leaves_room}
use Rattle.bus_reach.proofs.aperiodic.bears.Given as goal

-- the senders so far leave room
abbrev pub invariant-loop-a : goal.invariant-loop-a
invariant-loop-a l = list_all (leaves_room l.d l.sg l.senders) (take l.a-index l.senders) ≡ true
