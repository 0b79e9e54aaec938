use Rattle.std.proofs.Common.{◌≡◌, suc, ◌+◌}
use Rattle.bus_margins.specs.Buses.{bus_of}
use Rattle.bus_margins_periodic.specs.Least.{least_of}
use Rattle.bus_margins_periodic.specs.Rooms.{room_between}
use Rattle.bus_margins_periodic.proofs.leading.others_room.Given as goal

abbrev pub invariant-loop-k : goal.invariant-loop-k
invariant-loop-k l = l.least ≡ least_of l.k (λ b. room_between (suc b) 0 (l.ends + (bus_of l.bounds l.table).delay + (bus_of l.bounds l.table).sg_long (suc b)) ((bus_of l.bounds l.table).ti_short 0))
