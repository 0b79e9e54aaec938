use Rattle.std.proofs.Common.{◌≡◌, ◌≤◌, ◌⊎◌, ◌^◌, suc, ◌+◌, ◌-◌, ◌*◌}
use Rattle.bus_drift.specs.Turns.{fastest}
use Rattle.bus_margins.specs.Buses.{bus_of}
use Rattle.bus_margins_periodic.specs.Rooms.{order_among}
use Rattle.bus_margins_periodic.proofs.KeepingLemmas.{Hold}
use Rattle.bus_margins_periodic.proofs.keeping.passed_holds.Given as goal

-- the rule holds of all before
abbrev pub invariant-loop-due : goal.invariant-loop-due
invariant-loop-due l =
    Hold (λ b. order_among (bus_of l.bounds l.table) l.case.late l.case.held (l.case.held + suc b)) (l.due - suc l.case.held)
    × (l.fast ≡ fastest (bus_of l.bounds l.table) l.case.late (l.due - 1))
    × (l.fast ≤ 2 ^ 41 + (l.due - suc l.case.held) * 2 ^ 31)
    × (suc l.case.held ≤ l.due)
    × ((l.due ≤ l.last) ⊎ (l.due ≡ suc l.case.held))
