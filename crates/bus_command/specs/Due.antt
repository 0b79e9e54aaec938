-- What is due for given texts, step by step: a value, or the outcome that refuses it. The order of the steps is the order of refusals.
use Rattle.std.specs.Prelude.{◌≡◌, ℕ, Bool, true, false, nat_lt, List, length, Option, None, Result, Ok, Err, if◌then◌else◌}
use Rattle.bus_text.specs.AllOf.{◌>>=◌}
use Rattle.bus_text.specs.Refusals.{Refusal}
use Rattle.bus_strings.specs.Items.{Item}
use Rattle.bus_strings.specs.Reading.{messages_reading}
use Rattle.bus_table.specs.declared.error.TableError.{TableError}
use Rattle.bus_table.specs.declared.error.TableError.TheVariants.{Text, Whole, Memory}
use Rattle.bus_table.specs.declared.fit.FitError.{FitError}
use Rattle.bus_hands.specs.declared.error.HandsError.{HandsError}
use Rattle.bus_hands.specs.declared.error.HandsError.TheVariants.{Text as NotRead, Unfit as NotFit, Memory as NoRoom}
use Rattle.bus_table.specs.Tables.{Table, Hand}
use Rattle.bus_table.specs.Fits.{items_fit}
use Rattle.bus_table.specs.Hands.{hands_of}
use Rattle.bus_table.specs.Reading.{answer_of as table_answer}
use Rattle.bus_trace.specs.declared.fault.TraceError.{TraceError}
use Rattle.bus_trace.specs.declared.fault.TraceError.TheVariants as trace
use Rattle.bus_trace.specs.Traces.{Recording}
use Rattle.bus_trace.specs.Limits.{trace_limit}
use Rattle.bus_trace.specs.Runs.{reading}
use Rattle.bus_command.specs.declared.inputs.Traced.{Traced}
use Rattle.bus_command.specs.declared.recorded.Followed.{Followed}
use Rattle.bus_command.specs.declared.recorded.Recorded.{Recorded}
use Rattle.bus_command.specs.Heard.{garbled_behind}
use Rattle.bus_command.specs.declared.outcome.Outcome.{Outcome}
use Rattle.bus_command.specs.declared.outcome.Outcome.TheVariants.{TableText, TableWhole, MessagesText, Unfit, TraceText}
use Rattle.bus_command.specs.declared.outcome.Outcome.TheVariants.{ReadFault, NoMemory}
use Rattle.bus_command.specs.declared.outcome.Outcome.TheVariants.{TooLarge}
use Rattle.bus_command.specs.Kinds.{kind_of, is_answer}
use Rattle.bus_command.specs.Readers.{text_limit}
use Rattle.bus_command.specs.Stages.{refusal_in}

-- The text of a source, which is too large before all that is read from it.
abbrev pub text_within : {R : Type 0} → ℕ → ℕ → List ℕ → Result (List ℕ) (Outcome R)
text_within limit number text = if nat_lt limit (length text) then Err (TooLarge number) else Ok text

-- A table text or a messages text.
abbrev pub text_due : {R : Type 0} → ℕ → List ℕ → Result (List ℕ) (Outcome R)
text_due number text = text_within text_limit number text

-- ---- the first text
-- Why a table text is refused.
abbrev pub table_refusal : {R : Type 0} → TableError → Outcome R
table_refusal (Text line reason) = TableText line reason
table_refusal (Whole reason) = TableWhole reason
table_refusal Memory = NoMemory

-- A table, or the outcome of its refusal.
abbrev pub table_or_refusal : {R : Type 0} → Result Table TableError → Result Table (Outcome R)
table_or_refusal (Ok table) = Ok table
table_or_refusal (Err error) = Err (table_refusal error)

-- The table of the first text.
abbrev pub table_due : {R : Type 0} → List ℕ → Result Table (Outcome R)
table_due text = text_due 1 text >>= λ whole. table_or_refusal (table_answer whole)

-- Why the first text is refused.
abbrev pub table_refusal_of : {R : Type 0} → List ℕ → Option (Outcome R)
table_refusal_of text = refusal_in (table_due text)

-- ---- the second text, where it is one of messages
-- Why a messages text gives the senders of a table no hands.
abbrev pub hands_refusal : {R : Type 0} → HandsError → Outcome R
hands_refusal (NotRead line reason) = MessagesText line reason
hands_refusal (NotFit error) = Unfit error
hands_refusal NoRoom = NoMemory

-- Items, or the outcome of their refusal.
abbrev pub items_or_refusal : {R : Type 0} → Result (List Item) Refusal → Result (List Item) (Outcome R)
items_or_refusal (Ok items) = Ok items
items_or_refusal (Err refusal) = Err (MessagesText refusal.line refusal.reason)

-- Items, where each fits its sender.
abbrev pub fitting_or_refusal : {R : Type 0} → Result (Unit {0}) FitError → List Item → Result (List Item) (Outcome R)
fitting_or_refusal (Ok fit) items = Ok items
fitting_or_refusal (Err error) items = Err (Unfit error)

-- The items of the second text, each of which fits its sender.
abbrev pub items_due : {R : Type 0} → Table → List ℕ → Result (List Item) (Outcome R)
items_due table text =
    text_due 2 text >>= λ whole. items_or_refusal (messages_reading whole)
    >>= λ items. fitting_or_refusal (items_fit table items) items

-- ---- the second text, where it is a trace
-- What a read of a trace comes to that failed.
abbrev pub trace_refusal : {R : Type 0} → TraceError → Outcome R
trace_refusal (trace.Text byte reason) = TraceText byte reason
trace_refusal trace.ReadFault = ReadFault 2
trace_refusal trace.TooLarge = TooLarge 2
trace_refusal trace.Memory = NoMemory

-- What a stream of bytes reads as, or why it is refused.
abbrev pub trace_or_refusal : {R : Type 0} → Result Recording TraceError → Result Recording (Outcome R)
trace_or_refusal (Ok recording) = Ok recording
trace_or_refusal (Err error) = Err (trace_refusal error)

-- The trace at the front of the second text.
abbrev pub trace_due : {R : Type 0} → List ℕ → Result Recording (Outcome R)
trace_due text = trace_or_refusal (reading trace_limit text)

-- ---- both texts
-- A table, and items that fit it.
pub record Inputs : Type 0 where
  pub table : Table
  pub items : List Item

-- The pair of these.
abbrev pub with_items : Table → List Item → Inputs
with_items table items = record { table = table; items = items }

-- The hands of a table's senders.
abbrev pub hands_in : Inputs → List Hand
hands_in inputs = hands_of inputs.table inputs.items

-- The table that is made of the first text, and the items of the second, which is looked at only where nothing of the first is refused.
abbrev pub inputs_by : {R : Type 0} → (List ℕ → Result Table (Outcome R)) → List ℕ → List ℕ → Result Inputs (Outcome R)
inputs_by made first second = made first >>= λ table. items_due table second >>= λ items. Ok (with_items table items)

-- The pair of a table and a trace.
abbrev pub with_trace : Table → Recording → Traced
with_trace table trace = record { table = table; trace = trace }

-- A table, and the trace that is made of the second text, which is looked at only where nothing of the first is refused.
abbrev pub traced_by : {R : Type 0} → (Table → List ℕ → Result Recording (Outcome R)) → List ℕ → List ℕ → Result Traced (Outcome R)
traced_by made first second = table_due first >>= λ table. made table second >>= λ trace. Ok (with_trace table trace)

-- The trace of a text, whatever the table is.
abbrev pub any_trace : {R : Type 0} → Table → List ℕ → Result Recording (Outcome R)
any_trace table text = trace_due text

-- A table and a trace.
abbrev pub traced_due : {R : Type 0} → List ℕ → List ℕ → Result Traced (Outcome R)
traced_due first second = traced_by any_trace first second

-- How many receptions are garbled behind a trace, where that is looked at.
abbrev pub garbled_where : Bool → Recording → List ℕ → Option ℕ
garbled_where false trace text = None
garbled_where true trace text = garbled_behind trace text

-- A trace, and this behind it.
abbrev pub with_garbled : Recording → Option ℕ → Followed
with_garbled trace garbled = record { trace = trace; garbled = garbled }

-- The trace at the front of the second text, and what is told behind it, where that is looked at.
abbrev pub followed_due : {R : Type 0} → Bool → List ℕ → Result Followed (Outcome R)
followed_due hears text = trace_due text >>= λ trace. Ok (with_garbled trace (garbled_where hears trace text))

-- A table, and these.
abbrev pub with_followed : Table → Followed → Recorded
with_followed table followed = record { table = table; trace = followed.trace; garbled = followed.garbled }

-- A table, a trace, and what is told behind it, where that is looked at.
abbrev pub recorded_due : {R : Type 0} → Bool → List ℕ → List ℕ → Result Recorded (Outcome R)
recorded_due hears first second = table_due first >>= λ table. followed_due hears second >>= λ followed. Ok (with_followed table followed)

-- ---- the answer
-- A refusal, or the answer to a value.
abbrev pub outcome_with : {R Y : Type 0} → (Y → Outcome R) → Result Y (Outcome R) → Outcome R
outcome_with answer (Ok y) = answer y
outcome_with answer (Err refusal) = refusal

-- A text of the value that is due, where it is answered.
abbrev pub IsTextOf : {R Y : Type 0} → (Y → Outcome R) → (Y → List ℕ → Type 0) → Result Y (Outcome R) → List ℕ → Type 0
IsTextOf {R} {Y} answer IsText due text = (y : Y) × (due ≡ Ok y) × (is_answer (kind_of (answer y)) ≡ true) × IsText y text
