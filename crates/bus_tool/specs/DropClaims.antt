-- What is claimed of `drop`.
use Rattle.std.specs.Prelude.{◌≡◌, List}
use Rattle.bus_table.specs.Tables.{Table, Hand}
use Rattle.bus_trace.specs.Traces.{Recording}
use Rattle.bus_tool.specs.Replies.{Reply, TheRun, receipts_of}
use Rattle.bus_tool.specs.Texts.{IsDropRecording}

-- The one trace of the run, and what each terminal receives of it: its horizon is the end of the drop-out schedule, its holds are those of
-- the hands, and its list is the run.
pub record IsTheDrop (table : Table) (hands : List Hand) (reply : Reply) : Type 0 where
  pub trace : Recording
  pub ran : IsDropRecording table hands trace
  pub reply_is : reply ≡ TheRun trace (receipts_of table trace.list)
