-- What is claimed of `diagnose`: that what it finds is no false alarm, and that its amounts are true.
use Rattle.std.specs.Prelude.{◌≡◌, ℕ, ◌<◌, false, Some}
use Rattle.bus_strings.specs.Messages.{Entry}
use Rattle.bus_bounds.specs.Bounds.{Bounds}
use Rattle.bus_table.specs.Tables.{Sender, Table}
use Rattle.bus_trace.specs.Traces.{Recording}
use Rattle.bus_audit.specs.Breaches.{IsAnswer}
use Rattle.bus_audit.specs.declared.answer.AuditAnswer.TheVariants.{Lawful}
use Rattle.bus_recording.specs.Amounts.{IntervalIsTrue, GapIsTrue, SyncIsTrue, LateIsTrue}
use Rattle.bus_recording.specs.Seen.{Seen}
use Rattle.bus_findings.specs.Files.{IsInCourse, KeepsInFile, StandsInFile}
use Rattle.bus_findings.specs.Judging.{judgement_of, last_start}
use Rattle.bus_findings.specs.Laws.{Keeps, IsOfSender, IsUnblamed, AreAmounts, AreOfTable, OfEachSender}
use Rattle.bus_findings.specs.Meanings.{GapIsMeantOf, IsMeantOf, StartsSingly}
use Rattle.bus_findings.specs.Recorded.{seen, recorded, monitor_of, timers_of}
use Rattle.bus_findings.specs.Terminals.{has_fault}
use Rattle.bus_recording_lawful.specs.Faultless.{exact_bounds}

-- What an amount means of the terminal that it is told of, whatever this one and the others did, on any bus: how much too short its
-- interval was, how much of the quiet was missing that it has to hear, and how long it had been due.
pub record AreTrue : Type 0 where
  pub interval : IntervalIsTrue
  pub terminal_gap : GapIsTrue
  pub sync_gap : SyncIsTrue
  pub late : LateIsTrue

-- What is found in the trace, as a recording of a bus of the table within the bounds:
--   unblamed  no false alarm: on a bus that goes in whole bit times a sender that keeps its bounds, and hears the bus as it is recorded,
--             is told no fault by a timer, whatever the other terminals do, and whatever came before the recording
--   files     nor is it on any bus, where the trace is the file of a monitor: in whole bit times, rounded down, of a bus that ran before
--             and goes on behind it
--   courses   nor is any sender of a bus within bounds, in any course of it, in both modes, from any state
--   keepers   so no fault is found in such a file, where each transmission is of a sender, and fits, and each sender keeps its bounds
--   senders   or is a sender of a bus within bounds
--   lawful    nor with `0 0 0` in a trace that `audit` finds to be lawful
--   amounts   what is told of a start behind another of its sender are the amounts of bus_recording, the greatest of which it says so
--   meaning   and what these mean on a bus that goes in whole bit times
--   ticks     what they mean where the trace is the file of a monitor, of the bus that was recorded, in ticks as fine as you like: but for
--             less than a bit time, or two
--   gap       and the amount of its terminal gap, be the start the first of its sender
pub record TellsFindings (bounds : Bounds) (table : Table) (trace : Recording) : Type 0 where
  pub unblamed : (sender : Sender) (x : Entry) → Keeps bounds table trace sender → IsOfSender table trace sender x
      → IsUnblamed (judgement_of bounds table trace.list x)
  pub files : (sender : Sender) (x : Entry) → KeepsInFile bounds table trace sender → IsOfSender table trace sender x
      → IsUnblamed (judgement_of bounds table trace.list x)
  pub courses : (sender : Sender) (x : Entry) → IsInCourse bounds table trace sender → IsOfSender table trace sender x
      → IsUnblamed (judgement_of bounds table trace.list x)
  pub keepers : AreOfTable table trace → OfEachSender table (KeepsInFile bounds table trace) → has_fault bounds table trace ≡ false
  pub senders : AreOfTable table trace → OfEachSender table (IsInCourse bounds table trace) → has_fault bounds table trace ≡ false
  pub lawful : (collided : ℕ) → bounds ≡ exact_bounds → IsAnswer table trace (Lawful collided) → has_fault bounds table trace ≡ false
  pub amounts : (sender : Sender) (x : Entry) (o : Seen) → IsOfSender table trace sender x
      → last_start (recorded bounds trace.list) x.terminal x.moment ≡ Some o
      → AreAmounts (timers_of bounds table sender) (monitor_of bounds table) (recorded bounds trace.list) o (seen bounds x)
      (judgement_of bounds table trace.list x)
  pub meaning : AreTrue
  pub ticks : (sender : Sender) (s : StandsInFile bounds table trace sender) (x : Entry) (o : Seen)
      → StartsSingly bounds table trace sender s → IsOfSender table trace sender x
      → last_start (recorded bounds trace.list) x.terminal x.moment ≡ Some o
      → IsMeantOf bounds table trace sender s x o
  pub gap : (sender : Sender) (s : StandsInFile bounds table trace sender) (x : Entry) → StartsSingly bounds table trace sender s
      → IsOfSender table trace sender x → 0 < (judgement_of bounds table trace.list x).terminal_gap
      → GapIsMeantOf bounds table trace sender s x
