use Rattle.std.proofs.Common.{◌≡◌, ◌≤◌, ◌^◌}
use Rattle.bus_drift.specs.Pace.{greatest_below}
use Rattle.bus_margins.specs.Buses.{bus_of}
use Rattle.bus_margins_periodic.specs.inside.Cases.{round_from}
use Rattle.bus_margins_periodic.proofs.rounds.longest.Given as goal

abbrev pub invariant-loop-late : goal.invariant-loop-late
invariant-loop-late l =
    (l.greatest ≡ greatest_below (λ i. greatest_below (round_from (bus_of l.bounds l.table) i) (bus_of l.bounds l.table).senders) l.late) × (l.greatest ≤ 2 ^ 42)
