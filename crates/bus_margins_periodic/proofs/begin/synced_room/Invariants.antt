use Rattle.std.proofs.Common.{◌≡◌, suc}
use Rattle.bus_margins.specs.Buses.{bus_of}
use Rattle.bus_margins_periodic.specs.Buses.{soon_of}
use Rattle.bus_margins_periodic.specs.Least.{least_of}
use Rattle.bus_margins_periodic.specs.Rooms.{synced_room}
use Rattle.bus_margins_periodic.proofs.begin.synced_room.Given as goal

abbrev pub invariant-loop-k : goal.invariant-loop-k
invariant-loop-k l = l.least ≡ least_of l.k (λ b. synced_room (bus_of l.fn.bounds l.fn.table) (soon_of l.fn.bounds l.fn.table) (suc b))
