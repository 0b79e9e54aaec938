-- What is due of a view's or a page's texts: the outcome, where nothing outside fails and memory is granted, and the text of an answer.
use Rattle.std.specs.Prelude.{◌≡◌, ℕ, Bool, true, false, List, Option, Some, None, Result, Ok, Err, Vec, unwrap_or}
use Rattle.std.specs.declared.alloc.Global.{Global}
use Rattle.bus_bounds.specs.Bounds.{Bounds}
use Rattle.bus_findings.specs.declared.judgement.Judgement.{Judgement}
use Rattle.bus_findings.specs.Judging.{judgements}
use Rattle.bus_table.specs.declared.error.TableError.{TableError}
use Rattle.bus_table.specs.Reading.{answer_of as table_answer}
use Rattle.bus_table.specs.Tables.{Table}
use Rattle.bus_regime.specs.Lines.{verdict_words}
use Rattle.bus_regime.specs.Verdicts.{is_accepted, verdict_of}
use Rattle.bus_regime.specs.declared.table_verdict.TableVerdict.{TableVerdict}
use Rattle.bus_trace.specs.Traces.{Recording}
use Rattle.bus_audit.specs.Breaches.{answer_of}
use Rattle.bus_audit.specs.declared.answer.AuditAnswer.{AuditAnswer}
use Rattle.bus_audit.specs.declared.answer.AuditAnswer.TheVariants.{Lawful, Breach}
use Rattle.bus_dump.specs.declared.dump.Dump.{Dump as AnyDump}
use Rattle.bus_dump.specs.Doubled.{doubled}
use Rattle.bus_dump.specs.DumpTexts.{dump_text}
use Rattle.bus_dump.specs.declared.breach.FirstBreach.{FirstBreach}
use Rattle.bus_dump.specs.SaveFiles.{save_text}
use Rattle.bus_shapes.specs.declared.told.Told.{Told}
use Rattle.bus_shapes.specs.declared.told.Told.TheVariants.{Audit, OnCable, Findings}
use Rattle.bus_trace.specs.Windows.{Window, whole}
use Rattle.bus_picture.specs.TimeLines.{time_line_text}
use Rattle.bus_cycles.specs.CyclesTexts.{cycles_text}
use Rattle.bus_command.specs.declared.recorded.Recorded.{Recorded}
use Rattle.bus_command.specs.declared.outcome.Outcome.TheVariants.{Answered, Done}
use Rattle.bus_page.specs.Pages.{page_text}
use Rattle.bus_view.specs.Itself.{version_text}
use Rattle.bus_view.specs.Forms.{View, Dump, SaveFile, Painted, Judged, Picture, TimeLine, Cycles}
use Rattle.bus_view.specs.Refusals.{Outcome, refuse}

-- A trace of which no entry is doubled is answered, another refused.
abbrev pub single_outcome : Option ℕ → Outcome
single_outcome None = Done
single_outcome (Some entry) = refuse entry

-- What is answered to a table and a trace, or why nothing is: only of a dump it matters whether an entry is doubled.
abbrev pub view_answer : View → Table → Recording → Outcome
view_answer (Dump dump window) table trace = single_outcome (doubled trace.list)
view_answer (SaveFile window) table trace = Done
view_answer (Painted picture window) table trace = Done
view_answer (Judged picture bounds window) table trace = Done

-- The same to what was taken of both texts.
abbrev pub recorded_answer : View → Recorded → Outcome
recorded_answer view recorded = view_answer view recorded.table recorded.trace

-- The moment of a breach, where an audit found one.
abbrev pub breach_moment : AuditAnswer → Option ℕ
breach_moment (Lawful collided) = None
breach_moment (Breach moment terminal kind) = Some moment

-- The moment of the first breach that an audit finds in a trace, where it finds one.
abbrev pub first_breach : Table → Recording → Option ℕ
first_breach table trace = breach_moment (answer_of table trace)

-- The dump of a window of a trace on a table, with the wire of its first breach, and with the words of the table's verdict as its comment.
abbrev pub drawing : AnyDump → Window → Table → Recording → List ℕ
drawing dump window table trace = dump_text dump window (first_breach table trace) (verdict_words (verdict_of table)) table trace

-- A picture of a window of a trace on a table, with a verdict and what is told of the trace.
unfoldable pub painted : Picture → Window → TableVerdict → Told → Table → Recording → List ℕ
painted TimeLine window verdict told table trace = time_line_text window verdict told table trace
painted Cycles window verdict told table trace = cycles_text window verdict told table trace

-- What is told of a trace: what an audit finds, or that it was recorded on a cable, where it is known how many receptions are garbled.
abbrev pub told_of : Table → Recording → Option ℕ → Told
told_of table trace None = Audit (answer_of table trace)
told_of table trace (Some garbled) = OnCable garbled

-- With the table's own verdict, and that.
abbrev pub painting : Picture → Window → Table → Recording → Option ℕ → List ℕ
painting picture window table trace garbled = painted picture window (verdict_of table) (told_of table trace garbled) table trace

-- With the table's own verdict, what is found at each transmission of the trace, as in a recording of a bus of the table within bounds, and
-- how many receptions are garbled, where that is known.
pub record IsJudging (picture : Picture) (bounds : Bounds) (window : Window) (table : Table) (trace : Recording) (garbled : Option ℕ)
    (text : List ℕ) : Type 0 where
  pub found : Vec Judgement Global
  pub found_is : found.items ≡ judgements bounds table trace.list
  pub text_is : text ≡ painted picture window (verdict_of table) (Findings bounds found garbled) table trace

-- A breach with the terminal that it names, where an audit found one.
abbrev pub breach_of : AuditAnswer → Option FirstBreach
breach_of (Lawful collided) = None
breach_of (Breach moment terminal kind) = Some (record { moment = moment; terminal = terminal })

-- The first breach that an audit finds in a trace, where it finds one, with the terminal that it names.
abbrev pub named_breach : Table → Recording → Option FirstBreach
named_breach table trace = breach_of (answer_of table trace)

-- The save file of a window of a trace on a table, with its first breach.
abbrev pub saved : Window → Table → Recording → List ℕ
saved window table trace = save_text window (named_breach table trace) table trace

-- The window that is asked for, or all of the trace.
abbrev pub window_or_whole : Option Window → Recording → Window
window_or_whole window trace = unwrap_or window (whole trace.horizon)

-- The text of a view of a trace on a table, behind which it is told how many receptions are garbled, or isn't.
abbrev pub IsOfView : View → Table → Recording → Option ℕ → List ℕ → Type 0
IsOfView (Dump dump window) table trace garbled text = text ≡ drawing dump (window_or_whole window trace) table trace
IsOfView (SaveFile window) table trace garbled text = text ≡ saved (window_or_whole window trace) table trace
IsOfView (Painted picture window) table trace garbled text = text ≡ painting picture (window_or_whole window trace) table trace garbled
IsOfView (Judged picture bounds window) table trace garbled text =
    IsJudging picture bounds (window_or_whole window trace) table trace garbled text

-- The text of a view of what was taken of both texts.
abbrev pub IsView : View → Recorded → List ℕ → Type 0
IsView view recorded text = IsOfView view recorded.table recorded.trace recorded.garbled text

-- ---- pages
-- Yes where a table is accepted, else no.
abbrev pub accepted_outcome : Bool → Outcome
accepted_outcome true = Done
accepted_outcome false = Answered

-- Yes where a text gives a table that is accepted, else no.
abbrev pub text_outcome : Result Table TableError → Outcome
text_outcome (Ok table) = accepted_outcome (is_accepted (verdict_of table))
text_outcome (Err error) = Answered

-- What is answered to a text, whether it is one of a table or not.
abbrev pub page_answer : List ℕ → Outcome
page_answer text = text_outcome (table_answer text)

-- The page of a text, with its margins within the bounds that are asked for, where some are: it tells the version line as what wrote it.
abbrev pub page : Option Bounds → List ℕ → List ℕ
page asked text = page_text version_text text asked

-- A text is the page of another.
abbrev pub IsPage : Option Bounds → List ℕ → List ℕ → Type 0
IsPage asked first text = text ≡ page asked first
