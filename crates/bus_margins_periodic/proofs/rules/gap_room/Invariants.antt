use Rattle.std.proofs.Common.{◌≡◌}
use Rattle.bus_margins.specs.Buses.{bus_of}
use Rattle.bus_margins_periodic.specs.Least.{least_of}
use Rattle.bus_margins_periodic.specs.Rooms.{room_at}
use Rattle.bus_margins_periodic.proofs.rules.gap_room.Given as goal

abbrev pub invariant-loop-k : goal.invariant-loop-k
invariant-loop-k l = l.least ≡ least_of l.k (λ k. room_at k l.need ((bus_of l.bounds l.table).tg_short k))
