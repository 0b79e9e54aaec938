-- What is answered, in values. `Answering` says which text is written of each reply.
--   receipt   what a terminal receives
--   hearing   what a terminal hears on a cable
use Rattle.std.specs.Prelude.{◌≡◌, ℕ, Bool, List, Option, map, if◌then◌else◌}
use Rattle.bus_strings.specs.Items.{Item}
use Rattle.bus_strings.specs.Messages.{Entry}
use Rattle.bus_table.specs.Tables.{Table}
use Rattle.bus_table.specs.declared.mode.Mode.{Mode}
use Rattle.bus_trace.specs.Traces.{Recording}
use Rattle.bus_regime.specs.declared.table_verdict.TableVerdict.{TableVerdict}
use Rattle.bus_audit.specs.declared.answer.AuditAnswer.{AuditAnswer}
use Rattle.bus_bounds.specs.Bounds.{Bounds}
use Rattle.bus_filter.specs.Received.{ReceivedLine, Taker, received_by, takers}
use Rattle.bus_medium.specs.Delays.{Delays}
use Rattle.bus_cable.specs.Hearing.{hearings}
use Rattle.bus_cable.specs.HeardTexts.{terminals}
use Rattle.bus_made.specs.declared.answer.Answer.{Answer as Design}
use Rattle.bus_command.specs.declared.about.About.{About}
use Rattle.bus_command.specs.declared.status.Status.{Status}
use Rattle.bus_command.specs.declared.status.Status.TheVariants.{Done, Refused}

-- What a terminal receives: its number, and its received lines.
pub record Receipt : Type 0 where
  pub number : ℕ
  pub lines : List ReceivedLine

-- What a terminal hears of others: its number, and each transmission with whether another garbles it there.
pub record Hearing : Type 0 where
  pub number : ℕ
  pub marked : List (Entry × Bool)

-- What is answered. `NoOffsets`: no offsets are accepted, or bear the delay, in the table's interval, nor in any below `least`. `Unknown`:
-- it isn't known whether some do; the turns of a round take `least`. `NoDesign`: no table is made, for what the answer says.
pub data Reply : Type 0 where
  TheVerdict : (verdict : TableVerdict) → Reply
  TheTolerance : (mode : Mode) (tolerance : Option ℕ) (least most : ℕ) (any_start : Bool) → Reply
  TheMargins : (bounds : Bounds) (table : Table) → Reply
  NoDesign : (answer : Design) → Reply
  TheMessages : (items : List Item) → Reply
  TheTable : (table : Table) → Reply
  NoOffsets : (least ti : ℕ) → Reply
  Unknown : (least ti : ℕ) → Reply
  TheReport : (table : Table) → Reply
  TheDrill : (number senders rounds messages end collided received : ℕ) → Reply
  TheTrace : (trace : Recording) → Reply
  TheRun : (trace : Recording) (receipts : List Receipt) → Reply
  TheReceipts : (receipts : List Receipt) → Reply
  TheAudit : (answer : AuditAnswer) → Reply
  TheFindings : (bounds : Bounds) (table : Table) (trace : Recording) → Reply
  TheVotes : (table : Table) (list : List Entry) → Reply
  TheWave : (trace : Recording) → Reply
  TheExplanation : (text : List ℕ) → Reply
  TheDiagnosis : (table text : List ℕ) → Reply
  TheFacts : (text : List ℕ) → Reply
  OnTheCable : (trace : Recording) (hearings : List Hearing) → Reply
  OfItself : (about : About) → Reply

-- This reply, and no other.
abbrev pub Is : Reply → Reply → Type 0
Is reply given = given ≡ reply

-- The status of an answer that is a yes, or a no.
abbrev pub yes_or_no : Bool → Status
yes_or_no is_yes = if is_yes then Done else Refused

-- What a terminal that takes words receives of a list.
abbrev pub receipt_of : List Entry → Taker → Receipt
receipt_of list taker = record { number = taker.number; lines = received_by list taker }

-- What each terminal of a table receives of a list.
abbrev pub receipts_of : Table → List Entry → List Receipt
receipts_of table list = map (receipt_of list) (takers table)

-- What the terminal with this number hears of a list with these delays.
abbrev pub hearing_of : Delays → List Entry → ℕ → Hearing
hearing_of delay list number = record { number = number; marked = hearings delay list number }

-- What each terminal of a table hears of a list with these delays.
abbrev pub hearings_of : Table → Delays → List Entry → List Hearing
hearings_of table delay list = map (hearing_of delay list) (terminals table)
