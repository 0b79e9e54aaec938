-- What is claimed of `schedule`.
use Rattle.std.specs.Prelude.{IsTrue, List}
use Rattle.bus_table.specs.Tables.{Table, Hand}
use Rattle.bus_regime.specs.Verdicts.{verdict_of, is_accepted}
use Rattle.bus_trace.specs.Traces.{IsTrace}
use Rattle.bus_tool.specs.Texts.{IsRunRecording, scheduled}

-- The closed schedule is a trace, so that its text is read as one; and where the table is accepted, it is that of `run`.
pub record IsScheduled (table : Table) (hands : List Hand) : Type 0 where
  pub trace : IsTrace (scheduled table hands)
  pub ran : IsTrue (is_accepted (verdict_of table)) → IsRunRecording table hands (scheduled table hands)
