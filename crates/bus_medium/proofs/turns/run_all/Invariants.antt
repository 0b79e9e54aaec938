use Rattle.std.proofs.Common.{◌+◌, ◌-◌}
use Rattle.bus_medium.specs.inside.Lazy.{clocks_of, AreKept}
use Rattle.bus_medium.proofs.LazyRuns.{RunSoFar}
use Rattle.bus_medium.proofs.turns.run_all.Given as goal

abbrev pub invariant-loop-moment : goal.invariant-loop-moment
invariant-loop-moment g l = record {
  so : RunSoFar g.C.Core l.send_order.quiet l.horizon l.initial.seats l.seats (clocks_of l.idle.ended l.all_timers) l.list.items l.moment;
  kept : AreKept l.idle (l.send_order.quiet + l.moment) l.all_timers;
}

abbrev pub decreases-loop-moment : goal.decreases-loop-moment
decreases-loop-moment g l = l.horizon - l.moment
