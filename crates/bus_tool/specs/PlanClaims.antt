-- What is claimed of `plan`.
use Rattle.std.specs.Prelude.{◌≡◌, ℕ, ◌<◌, ◌≤◌, false, IsTrue, List}
use Rattle.bus_table.specs.Offsets.{with_offsets}
use Rattle.bus_table.specs.Tables.{Table}
use Rattle.bus_table.specs.Valid.{is_valid}
use Rattle.bus_regime.specs.Verdicts.{verdict_of, is_accepted}
use Rattle.bus_plan.specs.Plans.{least_interval, planned_table}
use Rattle.bus_command.specs.declared.status.Status.{Status}
use Rattle.bus_command.specs.declared.status.Status.TheVariants.{Done, Refused}
use Rattle.bus_tool.specs.Replies.{Reply, TheTable, NoOffsets, Is}

-- Where the transmit interval is at least the least interval, the planned table is answered, and the status is Done: it is the given one
-- but for its offsets, and accepted, so that what `run` promises holds of its text. Where the interval is below, both numbers are answered,
-- the status is Refused, and no choice of offsets is accepted.
pub record AnswersPlan (Answers : Status → (Reply → Type 0) → Type 0) (table : Table) : Type 0 where
  pub planned : least_interval table ≤ table.ti → Answers Done (Is (TheTable (planned_table table)))
  pub valid : least_interval table ≤ table.ti → IsTrue (is_valid (planned_table table))
  pub accepted : least_interval table ≤ table.ti → IsTrue (is_accepted (verdict_of (planned_table table)))
  pub infeasible : table.ti < least_interval table → Answers Refused (Is (NoOffsets (least_interval table) table.ti))
  pub refused : table.ti < least_interval table → (offsets : List ℕ) → is_accepted (verdict_of (with_offsets offsets table)) ≡ false
