use Rattle.bus_medium.specs.inside.Runs.{Reached}
use Rattle.bus_medium.proofs.bit_times.observe_all.Given as goal

abbrev pub invariant-loop-moment : goal.invariant-loop-moment
invariant-loop-moment g l = Reached g.C.Core l.send_order.quiet l.moment l.initial.seats l.seats l.list.items
