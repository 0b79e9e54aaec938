-- What the commands write on `out`, where their outcome is an answer.
--   hold   how many messages a terminal held when the bus began to run: a line of a trace
use Rattle.std.specs.Prelude.{◌≡◌, ℕ, List, [], ◌++◌}
use Rattle.bus_strings.specs.Canonical.{messages_text}
use Rattle.bus_table.specs.Tables.{Table, Hand}
use Rattle.bus_table.specs.Canonical.{table_text}
use Rattle.bus_plan.specs.Answers.{plan_of}
use Rattle.bus_regime.specs.Verdicts.{verdict_of}
use Rattle.bus_regime.specs.Lines.{verdict_line}
use Rattle.bus_regime.specs.Witness.{witness_of}
use Rattle.bus_medium.specs.Lawful.{IsLawful}
use Rattle.bus_medium.specs.Timings.{quiet_of, stations_of}
use Rattle.bus_cable.specs.Cables as cables
use Rattle.bus_cable.specs.Cables.{delays_on, place_on, wakes_on}
use Rattle.bus_propagation.specs.Lists.{IsListOnCable}
use Rattle.bus_cable.specs.HeardTexts.{heard_text}
use Rattle.bus_schedule.specs.Closed.{closed, closed_end}
use Rattle.bus_dropout.specs.DropOut.{drop_end}
use Rattle.bus_dropout.specs.Runs.{IsDropRun}
use Rattle.bus_schedule.specs.Runs.{IsRun}
use Rattle.bus_audit.specs.Breaches.{answer_of}
use Rattle.bus_audit.specs.Lines.{answer_line}
use Rattle.bus_filter.specs.ReceivedTexts.{received_text}
use Rattle.bus_trace.specs.Traces.{Recording, trace_text}
use Rattle.bus_vote.specs.VoteTexts.{votes_text}
use Rattle.bus_hands.specs.Holds.{hand_holds}
use Rattle.bus_wave.specs.WaveTexts.{wave_text}
use Rattle.bus_command.specs.declared.inputs.Traced.{Traced}
use Rattle.bus_command.specs.Due.{Inputs, hands_in}
use Rattle.bus_facts.specs.Facts.{facts_text}
use Rattle.bus_findings.specs.Texts.{findings_text}
use Rattle.bus_tool.specs.Forms.{TableCommand, Check, Tolerance, Tidy, Report, Witness, Plan, PlanFor, Margins, Design}
use Rattle.bus_tool.specs.Forms.{MessagesCommand, Observe, Run, Drop, Schedule, TraceCommand, Receive, Audit, Vote, Wave, Diagnose}
use Rattle.bus_tool.specs.Due.{CableInputs, cable_hands, cable_plan_of}
use Rattle.bus_tool.specs.Explanations.{explanation}
use Rattle.bus_tool.specs.Reports.{report_text}
use Rattle.bus_tool.specs.PlanTexts.{plan_text, cable_plan_text}
use Rattle.bus_made.specs.Answers.{answer_of as design_answer}
use Rattle.bus_made.specs.Texts.{answer_text as design_text}
use Rattle.bus_tool.specs.MarginsTexts.{margins_answer}
use Rattle.bus_tool.specs.Tolerances.{tolerance_text}

-- The recording of the senders of a table up to a horizon: what each of them held, and the lawful list.
pub record IsObserved (table : Table) (hands : List Hand) (until : ℕ) (recording : Recording) : Type 0 where
  pub horizon : recording.horizon ≡ until
  pub holds : recording.holds ≡ hand_holds hands
  pub lawful : IsLawful (quiet_of table) (stations_of table hands) until recording.list

-- The recording of a run: its horizon is the closed end, its holds are those of the hands, and its list is the run.
pub record IsRunRecording (table : Table) (hands : List Hand) (recording : Recording) : Type 0 where
  pub horizon : recording.horizon ≡ closed_end table hands
  pub holds : recording.holds ≡ hand_holds hands
  pub run : IsRun table hands recording.list

-- The recording of a run whose senders fall silent: its horizon is the end of the drop-out schedule.
pub record IsDropRecording (table : Table) (hands : List Hand) (recording : Recording) : Type 0 where
  pub horizon : recording.horizon ≡ drop_end table hands
  pub holds : recording.holds ≡ hand_holds hands
  pub run : IsDropRun table hands recording.list

-- The closed schedule of a table and hands, as a recording: its horizon is the closed end.
abbrev pub scheduled : Table → List Hand → Recording
scheduled table hands = record { horizon = closed_end table hands; holds = hand_holds hands; list = closed table hands }

-- The recording of the senders of a table on a cable up to a horizon: what each of them held, and the lawful list with its delays and
-- wakes.
pub record IsOnCable (table : Table) (cable : cables.Cable) (hands : List Hand) (until : ℕ) (recording : Recording) : Type 0 where
  pub horizon : recording.horizon ≡ until
  pub holds : recording.holds ≡ hand_holds hands
  pub lawful : IsListOnCable table hands (place_on cable) (wakes_on cable) until recording.list

-- ---- the texts
-- What is written of a table.
abbrev pub table_answer_text : TableCommand → Table → List ℕ
table_answer_text Check table = verdict_line (verdict_of table)
table_answer_text Tolerance table = tolerance_text (verdict_of table) table
table_answer_text Tidy table = table_text table
table_answer_text Report table = report_text table
table_answer_text Witness table = messages_text (witness_of table)
table_answer_text Plan table = plan_text (plan_of table)
table_answer_text (PlanFor delay) table = cable_plan_text (cable_plan_of delay table)
table_answer_text (Margins bounds) table = margins_answer (verdict_of table) bounds table
table_answer_text (Design bounds order) table = design_text (design_answer bounds order [] table)

-- The trace text of what is seen of the senders of a table with hands up to a horizon.
pub record IsObserveText (horizon : ℕ) (table : Table) (hands : List Hand) (text : List ℕ) : Type 0 where
  pub recording : Recording
  pub observed : IsObserved table hands horizon recording
  pub text_is : text ≡ trace_text recording

-- The text of a trace, and behind it what each terminal of the table receives.
abbrev pub run_text : Table → Recording → List ℕ
run_text table recording = trace_text recording ++ received_text table recording.list

-- The text of a recording of this kind.
pub record IsRanText (IsRecording : Table → List Hand → Recording → Type 0) (table : Table) (hands : List Hand) (text : List ℕ)
    : Type 0 where
  pub recording : Recording
  pub ran : IsRecording table hands recording
  pub text_is : text ≡ run_text table recording

-- What is written of a table and hands.
abbrev pub IsMessagesAnswerText : MessagesCommand → Table → List Hand → List ℕ → Type 0
IsMessagesAnswerText (Observe horizon) table hands text = IsObserveText horizon table hands text
IsMessagesAnswerText Run table hands text = IsRanText IsRunRecording table hands text
IsMessagesAnswerText Drop table hands text = IsRanText IsDropRecording table hands text
IsMessagesAnswerText Schedule table hands text = text ≡ trace_text (scheduled table hands)

-- The text of a trace, and behind it what each terminal of the table hears of its list on a cable.
abbrev pub on_cable_text : Table → cables.Cable → Recording → List ℕ
on_cable_text table cable recording = trace_text recording ++ heard_text table (delays_on cable) recording.list

-- That text of the senders of a table with hands on a cable up to a horizon.
pub record IsOnCableText (horizon : ℕ) (table : Table) (cable : cables.Cable) (hands : List Hand) (text : List ℕ) : Type 0 where
  pub recording : Recording
  pub observed : IsOnCable table cable hands horizon recording
  pub text_is : text ≡ on_cable_text table cable recording

-- What is written of a table and a trace.
abbrev pub trace_answer_text : TraceCommand → Table → Recording → List ℕ
trace_answer_text Receive table trace = received_text table trace.list
trace_answer_text Audit table trace = answer_line (answer_of table trace)
trace_answer_text Vote table trace = votes_text table trace.list
trace_answer_text Wave table trace = wave_text trace
trace_answer_text (Diagnose bounds) table trace = findings_text bounds table trace

-- The same of what was taken.
abbrev pub IsTableAnswerText : TableCommand → Table → List ℕ → Type 0
IsTableAnswerText command table text = text ≡ table_answer_text command table

-- The same of inputs.
abbrev pub IsInputsText : MessagesCommand → Inputs → List ℕ → Type 0
IsInputsText command inputs text = IsMessagesAnswerText command inputs.table (hands_in inputs) text

-- The same of a table and a trace together.
abbrev pub IsTracedText : TraceCommand → Traced → List ℕ → Type 0
IsTracedText command traced text = text ≡ trace_answer_text command traced.table traced.trace

-- The text of the trace that a wave tells.
abbrev pub IsUnwavedText : Traced → List ℕ → Type 0
IsUnwavedText traced text = text ≡ trace_text traced.trace

-- The explanation of a text.
abbrev pub IsExplanation : List ℕ → List ℕ → Type 0
IsExplanation first text = text ≡ explanation first

-- The facts of a text.
abbrev pub AreFacts : List ℕ → List ℕ → Type 0
AreFacts first text = text ≡ facts_text first

-- What is written of a table, a cable and items.
abbrev pub IsCableAnswerText : ℕ → CableInputs → List ℕ → Type 0
IsCableAnswerText horizon inputs text = IsOnCableText horizon inputs.table inputs.cable (cable_hands inputs) text
