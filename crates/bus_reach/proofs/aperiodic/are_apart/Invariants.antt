use Rattle.std.proofs.Common.{◌≡◌, true, take}
use Rattle.std.specs.List.{list_all}
use Rattle.bus_reach.proofs.RoomLemmas.{clears}
use Rattle.bus_reach.proofs.aperiodic.are_apart.Given as goal

-- the senders so far pass
abbrev pub invariant-loop-b : goal.invariant-loop-b
invariant-loop-b l = list_all (clears l.gap l.d) (take l.b-index l.senders) ≡ true
