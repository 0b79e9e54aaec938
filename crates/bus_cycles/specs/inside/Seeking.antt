-- How far rows have been looked through for a fault that is marked.
use Rattle.std.specs.Prelude.{◌≡◌, Bool, ◌||◌, List}
use Rattle.bus_findings.specs.declared.judgement.Judgement.{Judgement}
use Rattle.bus_shapes.specs.declared.sent.Sent.{Sent}
use Rattle.bus_cycles.specs.Faults.{any_marked}
use Rattle.bus_cycles.specs.inside.Marking.{Holds}
use Rattle.bus_cycles.specs.Rows.{Cycle, Extent, Row, rows_from}

-- It is known whether one is marked in the rows before this one, and whether one is found in this one, so far.
pub record Seeks (cycle : Cycle) (found : List Judgement) (whole marked any : Bool) (extent : Extent) (left : List Sent) : Type 0 where
  pub row : Row
  pub holds : Holds found row extent any
  pub whole_is : (marked || any_marked found (rows_from cycle row left)) ≡ whole
