use Rattle.std.proofs.Common.{◌≡◌, ◌≤◌, ◌^◌, ◌*◌}
use Rattle.bus_drift.specs.Leading.{least_offset}
use Rattle.bus_margins.specs.Buses.{bus_of}
use Rattle.bus_margins_periodic.specs.Buses.{soon_of, late_of}
use Rattle.bus_margins_periodic.proofs.leading.round_end_of.Given as goal

abbrev pub invariant-loop-k : goal.invariant-loop-k
invariant-loop-k l = (l.offset ≡ least_offset (bus_of l.bounds l.table) (soon_of l.bounds l.table) (late_of l.bounds l.table) l.k) × (l.offset ≤ l.k * 2 ^ 34)
