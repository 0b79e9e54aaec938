use Rattle.std.proofs.Common.{◌≡◌}
use Rattle.bus_margins.specs.Buses.{bus_of}
use Rattle.bus_margins_periodic.specs.Least.{least_of}
use Rattle.bus_margins_periodic.specs.Rooms.{sync_at}
use Rattle.bus_margins_periodic.proofs.rules.sync_room.Given as goal

abbrev pub invariant-loop-k : goal.invariant-loop-k
invariant-loop-k l = l.least ≡ least_of l.k (sync_at (bus_of l.bounds l.table))
