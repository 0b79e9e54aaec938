-- What is found of a text that stands beside an accepted table.
use Rattle.std.specs.Prelude.{ℕ, ◌+◌, nat_lt, Bool, true, false, ◌==◌, List, length, take, Option, Some, None, Result, Ok, Err}
use Rattle.std.specs.Prelude.{if◌then◌else◌}
use Rattle.bus_command.specs.Readers.{text_limit}
use Rattle.bus_text.specs.Lines.{line_after_of}
use Rattle.bus_text.specs.Refusals.{Refusal}
use Rattle.bus_strings.specs.Items.{Item}
use Rattle.bus_strings.specs.Reading.{messages_reading}
use Rattle.bus_table.specs.declared.fit.FitError.{FitError}
use Rattle.bus_table.specs.Fits.{items_fit}
use Rattle.bus_table.specs.Hands.{hands_of}
use Rattle.bus_table.specs.Tables.{Table, Hand}
use Rattle.bus_schedule.specs.declared.uneven.Uneven.{Uneven as UnevenHands}
use Rattle.bus_schedule.specs.Closed.{closed_end}
use Rattle.bus_schedule.specs.Even.{rounds}
use Rattle.bus_schedule.specs.Limits.{longest_end}
use Rattle.bus_schedule.specs.Uneven.{uneven_of}
use Rattle.bus_cable.specs.Cables as cables
use Rattle.bus_cable.specs.Reading.{cable_reading}
use Rattle.bus_trace.specs.declared.fault.TraceError.{TraceError}
use Rattle.bus_trace.specs.declared.fault.TraceError.TheVariants as traces
use Rattle.bus_trace.specs.Limits.{trace_limit}
use Rattle.bus_trace.specs.Runs.{reading}
use Rattle.bus_trace.specs.States.{last_end}
use Rattle.bus_trace.specs.Traces.{Recording}
use Rattle.bus_diagnosis.specs.Kinds.{Kind, Messages, Cable, Trace, first_of}
use Rattle.bus_diagnosis.specs.Misfits.{item_number, unfit_at}
use Rattle.bus_diagnosis.specs.Reaches.{reach_of}
pub use Rattle.bus_diagnosis.specs.declared.diagnosis.Diagnosis.{Diagnosis}
pub use Rattle.bus_diagnosis.specs.declared.diagnosis.Diagnosis.TheVariants.{NoKind, Large, Line, Byte, Unfit, Uneven, TooLong, Runs}
pub use Rattle.bus_diagnosis.specs.declared.diagnosis.Diagnosis.TheVariants.{OnCable, Recorded}

-- Whether nothing is wrong.
abbrev pub is_right : Diagnosis → Bool
is_right (NoKind line) = false
is_right (Large kind) = false
is_right (Line kind first line reason) = false
is_right (Byte byte line reason) = false
is_right (Unfit item) = false
is_right (Uneven counts) = false
is_right (TooLong end) = false
is_right (Runs rounds senders end) = true
is_right (OnCable rounds senders reach) = reach.borne
is_right (Recorded count horizon end) = true

-- A line of a text of this kind is refused.
abbrev pub refused_line : Kind → List ℕ → Refusal → Diagnosis
refused_line kind text refusal = Line kind (refusal.line == (first_of text).line) refusal.line refusal.reason

-- What is found of a text of this kind, where it isn't too large.
abbrev pub within : Kind → List ℕ → Diagnosis → Diagnosis
within kind text found = if nat_lt text_limit (length text) then Large kind else found

-- ---- hands
-- What is found of hands, where it is told which of them aren't even; of even ones by `found`.
abbrev pub hands_found : (List Hand → Diagnosis) → List Hand → Option UnevenHands → Diagnosis
hands_found found hands (Some counts) = Uneven counts
hands_found found hands None = found hands

-- What is found of items, where it is told which of them doesn't fit. So many lines stand between the first line of the text and the items.
abbrev pub items_found : (List Hand → Diagnosis) → Table → List ℕ → ℕ → List Item → Result (Unit {0}) FitError → Diagnosis
items_found found table text before items (Ok fit) = hands_found found (hands_of table items) (uneven_of table (hands_of table items))
items_found found table text before items (Err error) = Unfit (unfit_at table text before items (item_number error))

-- ---- a messages text
-- What is found of even hands.
abbrev pub run_found : Table → List Hand → Diagnosis
run_found table hands =
    if nat_lt longest_end (closed_end table hands) then TooLong (closed_end table hands)
    else Runs (rounds hands) (length table.senders) (closed_end table hands)

-- What is found of a messages text that reads so.
abbrev pub messages_found : Table → List ℕ → Result (List Item) Refusal → Diagnosis
messages_found table text (Ok items) = items_found (run_found table) table text 0 items (items_fit table items)
messages_found table text (Err refusal) = refused_line Messages text refusal

-- What is found of a messages text.
abbrev pub messages_text_found : Table → List ℕ → Diagnosis
messages_text_found table text = within Messages text (messages_found table text (messages_reading text))

-- ---- a cable text
-- How many lines stand between the first line of a cable text and its items.
abbrev pub named_count : cables.Cable → ℕ
named_count cable = length cable.places + length cable.wakes

-- What is found of even hands on a cable.
abbrev pub cable_found : Table → cables.Cable → List Hand → Diagnosis
cable_found table cable hands = OnCable (rounds hands) (length table.senders) (reach_of table cable)

-- What is found of a cable text that reads so.
abbrev pub on_cable_found : Table → List ℕ → Result (cables.Cable × List Item) Refusal → Diagnosis
on_cable_found table text (Ok read) =
    items_found (cable_found table read.0) table text (named_count read.0) read.1 (items_fit table read.1)
on_cable_found table text (Err refusal) = refused_line Cable text refusal

-- What is found of a cable text.
abbrev pub cable_text_found : Table → List ℕ → Diagnosis
cable_text_found table text = within Cable text (on_cable_found table text (cable_reading text))

-- ---- a trace text
-- What is found of a trace text that reads so. No text within the limit is too large, and no reading is a failed read or want of memory: of
-- these nothing is found.
abbrev pub trace_found : List ℕ → Result Recording TraceError → Diagnosis
trace_found text (Ok trace) = Recorded (length trace.list) trace.horizon (last_end trace.list)
trace_found text (Err (traces.Text byte reason)) = Byte byte (line_after_of (take byte text)) reason
trace_found text (Err traces.ReadFault) = NoKind 0
trace_found text (Err traces.TooLarge) = NoKind 0
trace_found text (Err traces.Memory) = NoKind 0

-- ---- each of them
-- What is found of a text whose first line is this.
abbrev pub kind_found : Table → List ℕ → (line : ℕ) → Option Kind → Diagnosis
kind_found table text line None = NoKind line
kind_found table text line (Some Messages) = messages_text_found table text
kind_found table text line (Some Cable) = cable_text_found table text
kind_found table text line (Some Trace) = trace_found text (reading trace_limit text)

-- What is found of a text that stands beside an accepted table.
abbrev pub diagnosis_of : Table → List ℕ → Diagnosis
diagnosis_of table text = kind_found table text (first_of text).line (first_of text).kind
