use Rattle.std.proofs.Common.{◌≡◌, ◌+◌}
use Rattle.bus_margins.specs.Buses.{bus_of}
use Rattle.bus_margins_periodic.specs.Least.{least_of}
use Rattle.bus_margins_periodic.specs.Rooms.{held_room}
use Rattle.bus_margins_periodic.proofs.order.order_room.Given as goal

abbrev pub invariant-loop-late : goal.invariant-loop-late
invariant-loop-late l = l.least ≡ least_of l.late (λ i. held_room (bus_of l.bounds l.table) (i + (bus_of l.bounds l.table).senders) i)
