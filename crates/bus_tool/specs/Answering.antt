-- What a call answers, said once for all commands: which text is written of each reply.
use Rattle.std.specs.Prelude.{◌≡◌, ℕ, List, ◌++◌, codes, decimal}
use Rattle.std.specs.List.{flat_map}
use Rattle.bus_strings.specs.Canonical.{messages_text}
use Rattle.bus_table.specs.Canonical.{table_text}
use Rattle.bus_table.specs.Text.{IsTableText}
use Rattle.bus_trace.specs.Traces.{IsTrace, trace_text}
use Rattle.bus_regime.specs.Lines.{verdict_line}
use Rattle.bus_audit.specs.Lines.{answer_line}
use Rattle.bus_filter.specs.ReceivedTexts.{line_text}
use Rattle.bus_cable.specs.HeardTexts.{hearing_line}
use Rattle.bus_findings.specs.Texts.{findings_text}
use Rattle.bus_vote.specs.VoteTexts.{votes_text}
use Rattle.bus_wave.specs.WaveTexts.{wave_text}
use Rattle.bus_facts.specs.Facts.{facts_text}
use Rattle.bus_command.specs.Claims as command
use Rattle.bus_command.specs.Outside.{Call}
use Rattle.bus_command.specs.declared.status.Status.{Status}
use Rattle.bus_tool.specs.Diagnosing.{beside, beside_told}
use Rattle.bus_tool.specs.Drills.{figures}
use Rattle.bus_tool.specs.Explanations.{explanation}
use Rattle.bus_tool.specs.Itself.{itself_text}
use Rattle.bus_made.specs.Texts.{answer_text as design_text}
use Rattle.bus_tool.specs.MarginsTexts.{margins_text}
use Rattle.bus_tool.specs.PlanTexts.{infeasible_line, undecided_line}
use Rattle.bus_tool.specs.Replies.{Receipt, Hearing, Reply, TheVerdict, TheTolerance, TheMargins, NoDesign, TheMessages, TheTable, NoOffsets, Unknown}
use Rattle.bus_tool.specs.Replies.{TheReport, TheDrill, TheTrace, TheRun, TheReceipts, TheAudit, TheFindings, TheVotes, TheWave}
use Rattle.bus_tool.specs.Replies.{TheExplanation, TheDiagnosis, TheFacts, OnTheCable, OfItself}
use Rattle.bus_tool.specs.Reports.{report_text}
use Rattle.bus_tool.specs.Tolerances.{tolerance_fields}

-- `TERMINAL n`, and what that terminal receives.
abbrev pub receipt_text : Receipt → List ℕ
receipt_text receipt = codes "TERMINAL " ++ decimal receipt.number ++ codes "\n" ++ flat_map line_text receipt.lines

-- `RECEIVED 1`, each terminal, and `END`.
abbrev pub receipts_text : List Receipt → List ℕ
receipts_text receipts = codes "RECEIVED 1\n" ++ flat_map receipt_text receipts ++ codes "END\n"

-- `TERMINAL n`, and what that terminal hears of others.
abbrev pub heard_by_text : Hearing → List ℕ
heard_by_text hearing = codes "TERMINAL " ++ decimal hearing.number ++ codes "\n" ++ flat_map hearing_line hearing.marked

-- `HEARD 1`, each terminal, and `END`.
abbrev pub hearings_text : List Hearing → List ℕ
hearings_text hearings = codes "HEARD 1\n" ++ flat_map heard_by_text hearings ++ codes "END\n"

-- The text of a reply.
abbrev pub reply_text : Reply → List ℕ
reply_text (TheVerdict verdict) = verdict_line verdict
reply_text (TheTolerance mode tolerance least most any_start) = tolerance_fields mode tolerance least most any_start
reply_text (TheMargins bounds table) = margins_text table.mode bounds table
reply_text (NoDesign answer) = design_text answer
reply_text (TheMessages items) = messages_text items
reply_text (TheTable table) = table_text table
reply_text (NoOffsets least ti) = infeasible_line least ti
reply_text (Unknown least ti) = undecided_line least ti
reply_text (TheReport table) = report_text table
reply_text (TheDrill number senders rounds messages end collided received) = figures number senders rounds messages end collided received
reply_text (TheTrace trace) = trace_text trace
reply_text (TheRun trace receipts) = trace_text trace ++ receipts_text receipts
reply_text (TheReceipts receipts) = receipts_text receipts
reply_text (TheAudit answer) = answer_line answer
reply_text (TheFindings bounds table trace) = findings_text bounds table trace
reply_text (TheVotes table list) = votes_text table list
reply_text (TheWave trace) = wave_text trace
reply_text (TheExplanation text) = explanation text
reply_text (TheDiagnosis table text) = beside_told (beside table text)
reply_text (TheFacts text) = facts_text text
reply_text (OnTheCable trace hearings) = trace_text trace ++ hearings_text hearings
reply_text (OfItself about) = itself_text about

-- The text of a table that is written stands for it, and a trace that is written is one: so each reads back.
abbrev pub Stands : Reply → Type 0
Stands (TheVerdict verdict) = Unit {0}
Stands (TheTolerance mode tolerance least most any_start) = Unit {0}
Stands (TheMargins bounds table) = Unit {0}
Stands (NoDesign answer) = Unit {0}
Stands (TheMessages items) = Unit {0}
Stands (TheTable table) = IsTableText table (table_text table)
Stands (NoOffsets least ti) = Unit {0}
Stands (Unknown least ti) = Unit {0}
Stands (TheReport table) = Unit {0}
Stands (TheDrill number senders rounds messages end collided received) = Unit {0}
Stands (TheTrace trace) = IsTrace trace
Stands (TheRun trace receipts) = IsTrace trace
Stands (TheReceipts receipts) = Unit {0}
Stands (TheAudit answer) = Unit {0}
Stands (TheFindings bounds table trace) = Unit {0}
Stands (TheVotes table list) = Unit {0}
Stands (TheWave trace) = Unit {0}
Stands (TheExplanation text) = Unit {0}
Stands (TheDiagnosis table text) = Unit {0}
Stands (TheFacts text) = Unit {0}
Stands (OnTheCable trace hearings) = IsTrace trace
Stands (OfItself about) = Unit {0}

-- The text of a reply of which this holds.
pub record IsTextOf (IsReply : Reply → Type 0) (text : List ℕ) : Type 0 where
  pub reply : Reply
  pub is : IsReply reply
  pub stands : Stands reply
  pub text_is : text ≡ reply_text reply

-- The answer: this status, and such a text behind what `out` held; or memory was refused, and nothing is written.
abbrev pub Answers : Call → Status → Status → (Reply → Type 0) → Type 0
Answers call status answer IsReply = command.Answers answer (IsTextOf IsReply) call status
