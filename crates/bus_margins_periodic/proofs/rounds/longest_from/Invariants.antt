use Rattle.std.proofs.Common.{◌≡◌, ◌≤◌, ◌^◌, ◌+◌, ◌*◌}
use Rattle.bus_drift.specs.Pace.{greatest_below}
use Rattle.bus_drift.specs.Turns.{slowest, fastest}
use Rattle.bus_margins.specs.Buses.{bus_of}
use Rattle.bus_margins_periodic.specs.inside.Cases.{round_from}
use Rattle.bus_margins_periodic.proofs.rounds.longest_from.Given as goal

abbrev pub invariant-loop-m : goal.invariant-loop-m
invariant-loop-m l =
    (l.greatest ≡ greatest_below (round_from (bus_of l.bounds l.table) l.late) l.m)
    × (l.slow ≡ slowest (bus_of l.bounds l.table) l.late (l.late + l.m))
    × (l.fast ≡ fastest (bus_of l.bounds l.table) l.late (l.late + l.m))
    × (l.slow ≤ l.m * 2 ^ 33)
    × (l.fast ≤ l.m * 2 ^ 31)
    × (l.greatest ≤ 2 ^ 42)
