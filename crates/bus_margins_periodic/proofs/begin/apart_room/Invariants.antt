use Rattle.std.proofs.Common.{◌≡◌}
use Rattle.bus_margins.specs.Buses.{bus_of}
use Rattle.bus_margins_periodic.specs.Buses.{soon_of, late_of}
use Rattle.bus_margins_periodic.specs.Least.{least_of}
use Rattle.bus_margins_periodic.specs.Rooms.{apart_room}
use Rattle.bus_margins_periodic.proofs.begin.apart_room.Given as goal

abbrev pub invariant-loop-k : goal.invariant-loop-k
invariant-loop-k l = l.least ≡ least_of l.k (apart_room (bus_of l.bounds l.table) (soon_of l.bounds l.table) (late_of l.bounds l.table))
