-- What a call asks for, in values: one case for each field of `Promises`. `Asking` says which words and texts ask for it.
use Rattle.std.specs.Prelude.{ℕ, List}
use Rattle.bus_strings.specs.Items.{Item}
use Rattle.bus_table.specs.Tables.{Table}
use Rattle.bus_trace.specs.Traces.{Recording}
use Rattle.bus_bounds.specs.Bounds.{Bounds}
use Rattle.bus_cable.specs.Cables.{Cable}
use Rattle.bus_made.specs.declared.order.Order.{Order}
use Rattle.bus_command.specs.declared.about.About.{About}

-- A command and the values that it is asked of, right or not: `Asks` adds that tables are valid, that items fit, that traces are traces,
-- and that numbers lie within their limits. `Explain`, `ExplainBeside` and `Facts` are asked of any texts.
pub data Asked : Type 0 where
  Check : (table : Table) → Asked
  Tolerance : (table : Table) → Asked
  Margins : (bounds : Bounds) (table : Table) → Asked
  Design : (bounds : Bounds) (order : Order) (table : Table) → Asked
  Witness : (table : Table) → Asked
  Tidy : (table : Table) → Asked
  Plan : (table : Table) → Asked
  PlanFor : (d : ℕ) (table : Table) → Asked
  PlanBest : (table : Table) → Asked
  Report : (table : Table) → Asked
  Drill : (number : ℕ) → Asked
  Observe : (table : Table) (items : List Item) (horizon : ℕ) → Asked
  Run : (table : Table) (items : List Item) → Asked
  Drop : (table : Table) (items : List Item) → Asked
  Schedule : (table : Table) (items : List Item) → Asked
  Receive : (table : Table) (trace : Recording) → Asked
  Audit : (table : Table) (trace : Recording) → Asked
  Diagnose : (bounds : Bounds) (table : Table) (trace : Recording) → Asked
  Vote : (table : Table) (trace : Recording) → Asked
  Wave : (table : Table) (trace : Recording) → Asked
  Unwave : (table : Table) (trace : Recording) → Asked
  Explain : (text : List ℕ) → Asked
  ExplainBeside : (table text : List ℕ) → Asked
  Facts : (text : List ℕ) → Asked
  OnCable : (table : Table) (cable : Cable) (items : List Item) (horizon : ℕ) → Asked
  Itself : (about : About) → Asked
