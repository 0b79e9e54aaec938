use Rattle.std.proofs.Common.{◌≡◌, ◌≤◌, ◌⊎◌, ◌^◌, ◌+◌, ◌-◌, ◌*◌}
use Rattle.bus_drift.specs.Turns.{slowest, fastest}
use Rattle.bus_margins.specs.Buses.{bus_of}
use Rattle.bus_margins_periodic.specs.Rooms.{passed_room}
use Rattle.bus_margins_periodic.proofs.KeepingLemmas.{Hold}
use Rattle.bus_margins_periodic.proofs.keeping.held_holds.Given as goal

-- the rule holds of all before
abbrev pub invariant-loop-held : goal.invariant-loop-held
invariant-loop-held l =
    Hold (λ a. passed_room (bus_of l.bounds l.table) l.last l.late (l.late + a)) (l.held - l.late)
    × (l.slow ≡ slowest (bus_of l.bounds l.table) l.late l.held)
    × (l.fast ≡ fastest (bus_of l.bounds l.table) l.late l.held)
    × (l.slow ≤ (l.held - l.late) * 2 ^ 33)
    × (l.fast ≤ (l.held - l.late) * 2 ^ 31)
    × (l.late ≤ l.held)
    × ((l.held ≤ l.last) ⊎ (l.held ≡ l.late))
