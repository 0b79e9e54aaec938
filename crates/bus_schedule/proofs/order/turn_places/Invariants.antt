use Rattle.std.proofs.Common.{◌≡◌, map, take, Some}
use Rattle.std.specs.Prelude.{slice_get}
use Rattle.bus_table.specs.Turns.{turn_order}
use Rattle.bus_schedule.proofs.order.turn_places.Given as goal

abbrev pub invariant-loop-turn : goal.invariant-loop-turn
invariant-loop-turn l = map (slice_get l.table.senders) l.places.items ≡ map Some (take l.turn (turn_order l.table))
