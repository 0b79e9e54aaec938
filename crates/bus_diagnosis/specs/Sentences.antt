-- What is said of a diagnosis, a sentence a line. What is said stands in `src/wordings.rt` and `src/faults.rt`.
use Rattle.std.specs.Prelude.{ℕ, ◌==◌, Bool, List, [], ◌∷◌, ◌++◌, Option, Some, None, if◌then◌else◌}
use Rattle.bus_say.specs.Sentences.{said}
use Rattle.bus_table.specs.declared.mode.Mode.{Mode}
use Rattle.bus_table.specs.declared.mode.Mode.TheVariants.{Aperiodic, Periodic}
use Rattle.bus_command.specs.Readers.{text_limit}
use Rattle.bus_text.specs.declared.reason.Reason.{Reason}
use Rattle.bus_trace.specs.declared.reason.TraceReason.{TraceReason}
use Rattle.bus_schedule.specs.declared.uneven.Uneven.{Uneven as UnevenHands}
use Rattle.bus_schedule.specs.Limits.{longest_end}
use Rattle.bus_diagnosis.specs.Kinds.{Kind, Messages, Cable, Trace}
use Rattle.bus_diagnosis.specs.Diagnoses.{Diagnosis, NoKind, Large, Line, Byte, Unfit, Uneven, TooLong, Runs, OnCable, Recorded}
use Rattle.bus_diagnosis.specs.Lines.{large_wording, line_wording, reason_text, trace_reason_text, first_form, forms_text}
use Rattle.bus_diagnosis.specs.Misfits as misfits
use Rattle.bus_diagnosis.specs.Misfits.{Misfit, Stranger, Strings, Words}
use Rattle.bus_diagnosis.specs.Reaches.{Pair, Reach}
use Rattle.bus_diagnosis.specs.declared.faults.TheConstants as refusals
use Rattle.bus_diagnosis.specs.declared.wordings.TheConstants as the

-- ---- a line that is refused
-- The first line begins no text that stands beside a table.
abbrev pub no_kind_text : ℕ → List ℕ
no_kind_text line = said refusals.NO_KIND.now (line ∷ []) ++ first_form Messages ++ first_form Cable ++ first_form Trace

-- A refused line of a messages text or of a cable text, why, and which lines there are.
abbrev pub refused_text : Kind → (first : Bool) → (line : ℕ) → Reason → List ℕ
refused_text kind first line reason = said (line_wording kind) (line ∷ []) ++ reason_text reason ++ forms_text kind first

-- The same of a trace text, of which so many bytes stand before the line.
abbrev pub refused_byte_text : (byte line : ℕ) → TraceReason → List ℕ
refused_byte_text byte line reason =
    said refusals.TRACE_BYTE.now (line ∷ byte ∷ []) ++ trace_reason_text reason ++ forms_text Trace (byte == 0)

-- ---- messages
-- Why an item doesn't fit.
abbrev pub misfit_text : Misfit → List ℕ
misfit_text Stranger = the.STRANGER.now
misfit_text (Strings strings lines) = said the.STRINGS.now (strings ∷ lines ∷ [])
misfit_text (Words string words least most) = said the.WORDS.now (string ∷ words ∷ least ∷ most ∷ [])

-- Which item it is, where it stands, and why it doesn't fit.
abbrev pub unfit_text : misfits.Unfit → List ℕ
unfit_text unfit = said the.ITEM.now (unfit.item ∷ unfit.line ∷ unfit.terminal ∷ []) ++ misfit_text unfit.misfit

-- Two senders with different numbers of messages.
abbrev pub uneven_text : UnevenHands → List ℕ
uneven_text counts = said the.UNEVEN.now (counts.one ∷ counts.one_count ∷ counts.other ∷ counts.other_count ∷ [])

-- ---- a cable
-- How far apart the terminals are.
abbrev pub pair_line : Pair → List ℕ
pair_line pair = if pair.bits == 0 then the.TOGETHER.now else said the.APART.now (pair.terminal ∷ pair.bits ∷ pair.sender ∷ [])

-- When the senders wake.
abbrev pub wake_line : ℕ → List ℕ
wake_line wake = if wake == 0 then the.WAKE_TOGETHER.now else said the.WAKES_LATE.now (wake ∷ [])

-- That a table of this mode doesn't bear it.
abbrev pub tolerance_wording : Mode → List ℕ
tolerance_wording Aperiodic = the.FAR_OR_LATE.now
tolerance_wording Periodic = the.FAR.now

-- What a table bears.
abbrev pub limit_line : Mode → Option ℕ → List ℕ
limit_line mode None = the.LATE.now
limit_line mode (Some tolerance) = said (tolerance_wording mode) (tolerance ∷ [])

-- Whether it bears the cable.
abbrev pub borne_line : Reach → List ℕ
borne_line reach = if reach.borne then the.BORNE.now else limit_line reach.mode reach.tolerance

-- A cable.
abbrev pub cable_text : (rounds senders : ℕ) → Reach → List ℕ
cable_text rounds senders reach =
    said the.CABLE_FITS.now (rounds ∷ senders ∷ []) ++ pair_line reach.pair ++ wake_line reach.wake ++ borne_line reach

-- ---- a trace
-- A whole one of so many transmissions.
abbrev pub recorded_wording : ℕ → List ℕ
recorded_wording count = if count == 0 then the.SILENT.now else the.RECORDED.now

-- ---- each diagnosis
-- All that is said of a diagnosis.
abbrev pub diagnosis_text : Diagnosis → List ℕ
diagnosis_text (NoKind line) = no_kind_text line
diagnosis_text (Large kind) = said (large_wording kind) (text_limit ∷ [])
diagnosis_text (Line kind first line reason) = refused_text kind first line reason
diagnosis_text (Byte byte line reason) = refused_byte_text byte line reason
diagnosis_text (Unfit unfit) = unfit_text unfit
diagnosis_text (Uneven counts) = uneven_text counts
diagnosis_text (TooLong end) = said the.TOO_LONG.now (end ∷ longest_end ∷ [])
diagnosis_text (Runs rounds senders end) = said the.RUNS.now (rounds ∷ senders ∷ end ∷ [])
diagnosis_text (OnCable rounds senders reach) = cable_text rounds senders reach
diagnosis_text (Recorded count horizon end) = said (recorded_wording count) (count ∷ horizon ∷ end ∷ [])
