-- What is claimed of `run`.
use Rattle.std.specs.Prelude.{◌≡◌, ℕ, List, length}
use Rattle.std.specs.List.{AllByRecursion}
use Rattle.bus_strings.specs.Items.{Item}
use Rattle.bus_table.specs.Tables.{Table, Hand}
use Rattle.bus_table.specs.Hands.{items_of}
use Rattle.bus_trace.specs.Traces.{Recording}
use Rattle.bus_tool.specs.Replies.{Reply, TheRun, receipts_of}
use Rattle.bus_tool.specs.Texts.{IsRunRecording}

-- The items are even: every sender has the same number of them, maybe none.
pub record AreEvenItems (table : Table) (items : List Item) : Type 0 where
  pub rounds : ℕ
  pub each : AllByRecursion (λ sender. length (items_of sender.number items) ≡ rounds) table.senders

-- The one trace of the run, and what each terminal receives of it: its horizon is the closed end, its holds are those of the hands, and its
-- list is the run.
pub record IsTheRun (table : Table) (hands : List Hand) (reply : Reply) : Type 0 where
  pub trace : Recording
  pub ran : IsRunRecording table hands trace
  pub reply_is : reply ≡ TheRun trace (receipts_of table trace.list)
