use Rattle.std.proofs.Common.{◌-◌, ◌^◌, ◌≤◌, length}
use Rattle.bus_medium.specs.Delays.{cable}
use Rattle.bus_propagation.specs.Numbered.{numbered}
use Rattle.bus_propagation.specs.inside.Arrivals.{ArePassed}
use Rattle.bus_propagation.specs.inside.Seats.{station_of}
use Rattle.bus_propagation.proofs.LookingLemmas.{Looking}
use Rattle.bus_propagation.proofs.looking.look_ahead.Given as goal

abbrev pub invariant-loop-coming : goal.invariant-loop-coming
invariant-loop-coming l = record {
  looks : Looking (cable (numbered l.places)) (station_of l.seat) l.list l.moment l.seat.timers l.certain l.ahead;
  passed : ArePassed (cable (numbered l.places)) l.seat.terminal l.list l.cursor l.ahead.moment;
  within : l.cursor ≤ length l.list;
  passed_for_certain : ArePassed (cable (numbered l.places)) l.seat.terminal l.list l.passed l.certain.moment;
  within_for_certain : l.passed ≤ length l.list;
}

abbrev pub decreases-loop-coming : goal.decreases-loop-coming
decreases-loop-coming l = 2 ^ 41 - l.ahead.moment
