use Rattle.std.proofs.Common.{◌≡◌, ◌≤◌, ◌^◌, length, suc, ◌-◌, ◌*◌}
use Rattle.bus_table.specs.Turns.{turn_order}
use Rattle.bus_drift.specs.Leading.{least_offset}
use Rattle.bus_drift.specs.Pace.{greatest_below}
use Rattle.bus_drift.specs.Turns.{fastest}
use Rattle.bus_margins.specs.Buses.{bus_of}
use Rattle.bus_margins_periodic.specs.Buses.{soon_of, late_of}
use Rattle.bus_margins_periodic.proofs.leading.sway_of.Given as goal

abbrev pub invariant-loop-k : goal.invariant-loop-k
invariant-loop-k l =
    (l.offset ≡ least_offset (bus_of l.bounds l.table) (soon_of l.bounds l.table) (late_of l.bounds l.table) l.k)
    × (l.offset ≤ l.k * 2 ^ 34)
    × (l.fast ≡ fastest (bus_of l.bounds l.table) 0 l.k)
    × (l.fast ≤ l.k * 2 ^ 31)
    × (l.greatest ≡ greatest_below (λ k. least_offset (bus_of l.bounds l.table) (soon_of l.bounds l.table) (late_of l.bounds l.table) k - fastest (bus_of l.bounds l.table) 0 k) (suc l.k))
    × (l.greatest ≤ l.k * 2 ^ 34)
    × (suc l.k ≤ length (turn_order l.table))
