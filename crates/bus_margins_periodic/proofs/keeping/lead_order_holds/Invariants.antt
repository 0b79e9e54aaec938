use Rattle.bus_margins.specs.Buses.{bus_of}
use Rattle.bus_margins_periodic.specs.Rooms.{held_room}
use Rattle.bus_margins_periodic.proofs.KeepingLemmas.{Hold}
use Rattle.bus_margins_periodic.proofs.keeping.lead_order_holds.Given as goal

-- the rule holds of all before
abbrev pub invariant-loop-late : goal.invariant-loop-late
invariant-loop-late l = Hold (λ i. held_room (bus_of l.bounds l.table) (bus_of l.bounds l.table).senders i) l.late
