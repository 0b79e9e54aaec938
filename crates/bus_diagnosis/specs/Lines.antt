-- What is said of a line that is refused: why, and which lines the text has. What is said stands in `src/faults.rt`, and of lines of any
-- text in bus_explain.
use Rattle.std.specs.Prelude.{ℕ, Bool, List, ◌++◌, if◌then◌else◌}
use Rattle.bus_text.specs.declared.reason.Reason.{Reason}
use Rattle.bus_text.specs.declared.reason.Reason.TheVariants as reasons
use Rattle.bus_trace.specs.declared.reason.TraceReason.{TraceReason}
use Rattle.bus_trace.specs.declared.reason.TraceReason.TheVariants as traces
use Rattle.bus_explain.specs.declared.faults.TheConstants as any
pub use Rattle.bus_diagnosis.specs.Kinds.{Kind, Messages, Cable, Trace}
use Rattle.bus_diagnosis.specs.declared.faults.TheConstants as the

-- That a text is too large.
abbrev pub large_wording : Kind → List ℕ
large_wording Messages = the.LARGE_MESSAGES.now
large_wording Cable = the.LARGE_CABLE.now
large_wording Trace = the.LARGE_TRACE.now

-- Which line is refused.
abbrev pub line_wording : Kind → List ℕ
line_wording Messages = the.MESSAGES_LINE.now
line_wording Cable = the.CABLE_LINE.now
line_wording Trace = the.TRACE_LINE.now

-- What is said of a reason against a line of a messages text or a cable text.
abbrev pub reason_text : Reason → List ℕ
reason_text reasons.Ended = the.NO_LINE.now
reason_text reasons.Keyword = any.MISPLACED.now
reason_text reasons.Fields = any.FIELDS.now
reason_text reasons.Spelling = any.SPELLING.now
reason_text reasons.Range = any.RANGE.now

-- What is said of a reason against a line of a trace text.
abbrev pub trace_reason_text : TraceReason → List ℕ
trace_reason_text traces.Ended = the.TRACE_ENDED.now
trace_reason_text traces.Long = the.TRACE_LONG.now
trace_reason_text traces.Keyword = the.TRACE_MISPLACED.now
trace_reason_text traces.Fields = the.TRACE_FIELDS.now
trace_reason_text traces.Spelling = the.TRACE_SPELLING.now
trace_reason_text traces.Parity = the.TRACE_PARITY.now
trace_reason_text traces.Range = any.RANGE.now
trace_reason_text traces.Order = the.TRACE_ORDER.now
trace_reason_text traces.Mark = the.TRACE_MARK.now

-- The first line of a text.
abbrev pub first_form : Kind → List ℕ
first_form Messages = the.MESSAGES_FIRST.now
first_form Cable = the.CABLE_FIRST.now
first_form Trace = the.TRACE_FIRST.now

-- The lines behind the first.
abbrev pub other_forms : Kind → List ℕ
other_forms Messages = the.MESSAGES_FORMS.now ++ the.ITEM_FORM.now
other_forms Cable = the.CABLE_FORMS.now ++ the.ITEM_FORM.now
other_forms Trace = the.TRACE_FORMS.now

-- The first line that a text has to have.
abbrev pub needed_text : Kind → List ℕ
needed_text kind = the.FIRST.now ++ first_form kind

-- The lines that a text of this kind has where one is refused, which may be the first.
abbrev pub forms_text : Kind → (first : Bool) → List ℕ
forms_text kind first = if first then needed_text kind else other_forms kind
