-- What is lawful has no fault, where clocks are exact and nothing is delayed.
use Rattle.std.specs.Prelude.{◌≡◌, IsTrue, false}
use Rattle.bus_bounds.specs.Bounds.{Bounds}
use Rattle.bus_table.specs.Tables.{Table}
use Rattle.bus_table.specs.Valid.{is_valid}
use Rattle.bus_trace.specs.Traces.{Recording, IsTrace}
use Rattle.bus_audit.specs.Breaches.{HasNoBreach}
use Rattle.bus_findings.specs.Terminals.{has_fault}

-- The bounds of such a bus.
abbrev pub exact_bounds : Bounds
exact_bounds = record { delay = 0; jitter = 0; clocks = 0 }

-- A trace in which an audit finds no breach has no fault by these bounds, from its beginning on.
abbrev pub LawfulHasNoFault : Type 0
LawfulHasNoFault =
    (table : Table) (trace : Recording) → IsTrue (is_valid table) → IsTrace trace → HasNoBreach table trace
    → has_fault exact_bounds table trace ≡ false
