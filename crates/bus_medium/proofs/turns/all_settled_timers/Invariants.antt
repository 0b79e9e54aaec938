use Rattle.bus_medium.specs.inside.Lazy.{clocks_of, EachKept}
use Rattle.bus_medium.proofs.LazyLoops.{SettledSoFar}
use Rattle.bus_medium.proofs.turns.all_settled_timers.Given as goal

abbrev pub invariant-loop-seat : goal.invariant-loop-seat
invariant-loop-seat g l = record {
  settled : SettledSoFar l.quiet l.seats (clocks_of 0 l.all_timers.items) l.seat-index;
  kept : EachKept l.all_timers.items;
}
