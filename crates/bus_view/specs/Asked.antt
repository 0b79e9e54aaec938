-- What a call asks for, in values: `Asking` says which words and texts ask for it.
use Rattle.std.specs.Prelude.{ℕ, List, Option}
use Rattle.bus_table.specs.Tables.{Table}
use Rattle.bus_trace.specs.Traces.{Recording}
use Rattle.bus_trace.specs.Windows.{Window}
use Rattle.bus_bounds.specs.Bounds.{Bounds}
use Rattle.bus_dump.specs.declared.dump.Dump.{Dump}
use Rattle.bus_command.specs.declared.about.About.{About}
use Rattle.bus_view.specs.Forms.{Picture}

-- A view, and what its words and texts stand for: a valid table, a trace, how many receptions are told to be garbled behind it, where that
-- is told, a window and bounds within their limits, where some are asked for. `Page` takes any text.
pub data Asked : Type 0 where
  Draw : (dump : Dump) (window : Option Window) (table : Table) (trace : Recording) → Asked
  Save : (window : Option Window) (table : Table) (trace : Recording) → Asked
  Paint : (picture : Picture) (window : Option Window) (table : Table) (trace : Recording) (garbled : Option ℕ) → Asked
  Judge : (picture : Picture) (bounds : Bounds) (window : Option Window) (table : Table) (trace : Recording) (garbled : Option ℕ) → Asked
  Page : (bounds : Option Bounds) (text : List ℕ) → Asked
  Itself : (about : About) → Asked
