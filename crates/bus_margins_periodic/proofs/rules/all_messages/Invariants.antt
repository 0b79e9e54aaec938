use Rattle.std.proofs.Common.{◌≡◌, ◌≤◌, ◌^◌, ◌*◌}
use Rattle.bus_clocks.specs.Buses.{sum_below}
use Rattle.bus_margins.specs.Buses.{bus_of}
use Rattle.bus_margins_periodic.proofs.rules.all_messages.Given as goal

abbrev pub invariant-loop-k : goal.invariant-loop-k
invariant-loop-k l = (l.sum ≡ sum_below (bus_of l.bounds l.table).longest l.k) × (l.sum ≤ l.k * 2 ^ 31)
