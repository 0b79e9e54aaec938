use Rattle.std.specs.Vec.Iter.{into_iter_items}
use Rattle.bus_propagation.specs.Numbered.{numbered}
use Rattle.bus_propagation.proofs.SeatingLemmas.{IsSeating}
use Rattle.bus_propagation.proofs.seating.seat_all.Given as goal

abbrev pub invariant-loop-hand : goal.invariant-loop-hand
invariant-loop-hand l = IsSeating l.table l.fn.hands.items (numbered l.wakes) l.seats.items (into_iter_items l.hand-iterator)
