-- What is answered, in values: `Answering` says which text is written of each reply.
use Rattle.std.specs.Prelude.{◌≡◌, ℕ, List, Option}
use Rattle.bus_table.specs.Tables.{Table}
use Rattle.bus_trace.specs.Traces.{Recording}
use Rattle.bus_trace.specs.Windows.{Window}
use Rattle.bus_bounds.specs.Bounds.{Bounds}
use Rattle.bus_regime.specs.declared.table_verdict.TableVerdict.{TableVerdict}
use Rattle.bus_dump.specs.declared.breach.FirstBreach.{FirstBreach}
use Rattle.bus_dump.specs.declared.dump.Dump.{Dump}
use Rattle.bus_shapes.specs.declared.told.Told.{Told}
use Rattle.bus_command.specs.declared.about.About.{About}
use Rattle.bus_view.specs.Forms.{Picture}

-- What is answered: a dump or a save file of a window of a trace on a table, with the first breach that is found, a dump with the verdict
-- too; a picture of it, with a verdict and what is told of the trace; the page of a text, with its margins within bounds, where some are
-- asked for; what the program tells of itself.
pub data Reply : Type 0 where
  TheDump : (dump : Dump) (window : Window) (breach : Option ℕ) (verdict : TableVerdict) (table : Table) (trace : Recording) → Reply
  TheSaveFile : (window : Window) (breach : Option FirstBreach) (table : Table) (trace : Recording) → Reply
  ThePicture : (picture : Picture) (window : Window) (verdict : TableVerdict) (told : Told) (table : Table) (trace : Recording) → Reply
  ThePage : (bounds : Option Bounds) (text : List ℕ) → Reply
  OfItself : (about : About) → Reply

-- This reply, and no other.
abbrev pub Is : Reply → Reply → Type 0
Is reply given = given ≡ reply
