-- What `tool` promises of texts that are right, in values.
use Rattle.std.specs.Prelude.{◌≡◌, ℕ, ◌≤◌, IsTrue, not, List, []}
use Rattle.bus_strings.specs.Items.{Item}
use Rattle.bus_table.specs.Tables.{Table}
use Rattle.bus_table.specs.Hands.{hands_of}
use Rattle.bus_table.specs.Reading.{answer_of}
use Rattle.bus_table.specs.Valid.{is_valid}
use Rattle.bus_table.specs.declared.mode.Mode.TheVariants.{Aperiodic, Periodic}
use Rattle.bus_trace.specs.Traces.{Recording}
use Rattle.bus_regime.specs.Verdicts.{verdict_of, is_accepted}
use Rattle.bus_regime.specs.Witness.{witness_of}
use Rattle.bus_audit.specs.declared.answer.AuditAnswer.{AuditAnswer}
use Rattle.bus_bounds.specs.Bounds.{Bounds}
use Rattle.bus_cable.specs.Cables.{Cable}
use Rattle.bus_cable_plan.specs.Answers.{plan_for_of, plan_best_of}
use Rattle.bus_cable_plan.specs.Meaning.{Means, MeansBest}
use Rattle.bus_dropout.specs.DropOut.{drop_end, LastIsLong}
use Rattle.bus_facts.specs.Facts.{is_accepting}
use Rattle.bus_findings.specs.Terminals.{has_fault}
use Rattle.bus_schedule.specs.Closed.{closed_end}
use Rattle.bus_schedule.specs.Limits.{longest_end}
use Rattle.bus_wave.specs.Spacing.{IsSpaced}
use Rattle.bus_command.specs.declared.about.About.{About}
use Rattle.bus_command.specs.declared.status.Status.{Status}
use Rattle.bus_command.specs.declared.status.Status.TheVariants.{Done}
use Rattle.bus_tool.specs.Asked.{Asked, Check, Tolerance, Margins, Design, Witness, Tidy, Plan, PlanFor, PlanBest, Report, Drill, Observe, Run}
use Rattle.bus_tool.specs.Asked.{Drop, Schedule, Receive, Audit, Diagnose, Vote}
use Rattle.bus_tool.specs.Asked.{Wave, Unwave, Explain, ExplainBeside, Facts, OnCable, Itself}
use Rattle.bus_tool.specs.Replies.{Reply, TheVerdict, TheMessages, TheTable, TheReport, TheTrace, TheReceipts, TheAudit, TheFindings}
use Rattle.bus_tool.specs.Replies.{TheVotes, TheWave, TheExplanation, TheDiagnosis, TheFacts, OfItself, Is, yes_or_no, receipts_of}
use Rattle.bus_tool.specs.CableClaims.{IsTheTraceOnCable}
use Rattle.bus_made.specs.declared.order.Order.{Order}
use Rattle.bus_made.specs.Answers.{answer_of as design_answer, Means as Designs}
use Rattle.bus_made.specs.Orders.{ordered, IsFreest}
use Rattle.bus_tool.specs.DesignClaims.{design_reply, is_made}
use Rattle.bus_tool.specs.CablePlanClaims.{is_planned, plan_reply}
use Rattle.bus_tool.specs.DiagnosisClaims.{is_right_beside, TellsBeside}
use Rattle.bus_tool.specs.DrillClaims.{drill_reply}
use Rattle.bus_tool.specs.DropClaims.{IsTheDrop}
use Rattle.bus_tool.specs.ExplainClaims.{ExplainsText}
use Rattle.bus_tool.specs.FactsClaims.{TellsFacts}
use Rattle.bus_tool.specs.FindingsClaims.{TellsFindings}
use Rattle.bus_tool.specs.MarginsClaims.{has_margins, margins_reply, TellsMargins, TellsTurns}
use Rattle.bus_tool.specs.ObserveClaims.{IsTheTrace}
use Rattle.bus_tool.specs.PlanClaims.{AnswersPlan}
use Rattle.bus_tool.specs.RunClaims.{AreEvenItems, IsTheRun}
use Rattle.bus_tool.specs.ScheduleClaims.{IsScheduled}
use Rattle.bus_tool.specs.TableClaims.{TellsSettled}
use Rattle.bus_tool.specs.Texts.{scheduled}
use Rattle.bus_tool.specs.ToleranceClaims.{tolerance_reply, TellsTolerance}
use Rattle.bus_tool.specs.TraceClaims.{IsFinding, is_lawful, TellsVotes}
use Rattle.bus_tool.specs.WaveClaims.{HasAWave}

-- What a call promises that asks for something. `Asks` says what it asks for; `Answers`, that it ends with a status and with a reply of
-- which something holds, or that memory was refused, of which `itself` takes none. `Asking` and `Answering` say once for all commands by
-- which words and texts: tables are valid, items fit, traces are traces, numbers lie within their limits, and nothing outside fails. A yes
-- has the status Done, a no Refused.
--   check     the verdict on a table; status 0 comes only for a settled table, status 1 only for one that isn't
--   tolerance how much delay it bears, exactly, and whether order comes from any start; or the verdict
--   margins   of a table and bounds: its margins, of which the level says what order comes on every bus within these, of an aperiodic one
--             by itself or from a common start, of a periodic one for ever, and how far apart two starts of a sender are; or the verdict
--   design    of an aperiodic table, bounds and an order: of all tables of its senders in that order that come into order by themselves
--             on every bus within these the one with the least longest cycle, or that there is none, and what is to blame; no order of them
--             has a lesser one than the free one
--   witness   the messages of its witness
--   tidy      the table
--   plan      of a periodic table: the planned table, which is accepted, or that no offsets are
--   plan_for  `plan` of a periodic table and a delay: the table at offsets that bear it, or that none do, or that neither is known
--   plan_best `plan` of a periodic table and `best`: the table at offsets that bear the greatest delay that any bear, or that none bear 0,
--             or that it isn't known whether some bear more
--   report    its report, and the status of its verdict
--   drill     the figures of that drill
--   observe   of items: the one trace
--   run       of items of an accepted table, as many for each sender: the one trace, which is the closed schedule, and what each terminal
--             receives of it
--   drop      of items of an accepted aperiodic table, whose last cycle is long enough: the one trace, which is the drop-out schedule
--   schedule  of items of any table, as many for each sender: the closed schedule as a trace, which `run` answers of an accepted table
--   receive   of a trace: what each terminal receives
--   audit     what an audit finds
--   diagnose  of a trace and bounds: what is found in it, as a recording of a bus of the table within the bounds; whoever keeps its bounds
--             is told no fault by a timer, and what is told of a start behind another is as much as happened
--   vote      the votes; two equal channels fix a vote, and of the trace of a run every round is voted, from the words of the hands
--   wave      of a spaced trace: its wave; the trace of a run is spaced, and one that a wave tells; two with the same wave are equal
--   unwave    of the wave of a trace: the trace
--   explain   of any text: its explanation; turns, waits, spare, load, gaps and tolerance are what they are said to be, each advice works,
--             none is missing, and what may stand at a refused line is exactly what goes on
--   explain_beside
--             `explain` of any two texts: what is found of the second beside the table in the first, or the explanation of that where it is
--             no accepted table's; with messages of which nothing is wrong `run` answers, the item that is named is the first that doesn't
--             fit, and on a cable that is borne the senders take turns
--   facts     of any text: its facts, of which the same holds, and that rules, latencies and levels are what they are said to be
--   cable     of a cable and items: the one trace on that cable, and what each terminal hears of it; on a plain cable it is the trace of
--             `observe`, and where the table bears the cable, with even hands, the closed schedule, of which nothing is garbled
--   itself    `--help` and `--version`: the help and the version line
pub record Promises (Asks : Asked → Type 0) (Answers : Status → (Reply → Type 0) → Type 0) (status : Status) : Type 0 where
  pub check : (table : Table) → Asks (Check table)
      → Answers (yes_or_no (is_accepted (verdict_of table))) (Is (TheVerdict (verdict_of table))) × TellsSettled table status
  pub tolerance : (table : Table) → Asks (Tolerance table)
      → Answers (yes_or_no (is_accepted (verdict_of table))) (Is (tolerance_reply (verdict_of table) table))
      × (IsTrue (is_accepted (verdict_of table)) → TellsTolerance table)
  pub margins : (bounds : Bounds) (table : Table) → Asks (Margins bounds table)
      → Answers (yes_or_no (has_margins (verdict_of table) bounds table)) (Is (margins_reply (verdict_of table) bounds table))
      × (table.mode ≡ Aperiodic → TellsMargins bounds table) × (table.mode ≡ Periodic → TellsTurns bounds table)
  pub design : (bounds : Bounds) (order : Order) (table : Table) → Asks (Design bounds order table) → table.mode ≡ Aperiodic
      → Answers (yes_or_no (is_made (design_answer bounds order [] table))) (Is (design_reply (design_answer bounds order [] table)))
      × Designs bounds [] (ordered order table) (design_answer bounds order [] table) × IsFreest bounds table
  pub witness : (table : Table) → Asks (Witness table) → Answers Done (Is (TheMessages (witness_of table)))
  pub tidy : (table : Table) → Asks (Tidy table) → Answers Done (Is (TheTable table))
  pub plan : (table : Table) → Asks (Plan table) → table.mode ≡ Periodic → AnswersPlan Answers table
  pub plan_for : (d : ℕ) (table : Table) → Asks (PlanFor d table) → table.mode ≡ Periodic
      → Answers (yes_or_no (is_planned (plan_for_of d table))) (Is (plan_reply (plan_for_of d table))) × Means d table (plan_for_of d table)
  pub plan_best : (table : Table) → Asks (PlanBest table) → table.mode ≡ Periodic
      → Answers (yes_or_no (is_planned (plan_best_of table))) (Is (plan_reply (plan_best_of table))) × MeansBest table (plan_best_of table)
  pub report : (table : Table) → Asks (Report table) → Answers (yes_or_no (is_accepted (verdict_of table))) (Is (TheReport table))
  pub drill : (number : ℕ) → Asks (Drill number) → Answers Done (Is (drill_reply number))
  pub observe : (table : Table) (items : List Item) (horizon : ℕ) → Asks (Observe table items horizon)
      → Answers Done (IsTheTrace table (hands_of table items) horizon)
  pub run : (table : Table) (items : List Item) → Asks (Run table items) → IsTrue (is_accepted (verdict_of table))
      → AreEvenItems table items → closed_end table (hands_of table items) ≤ longest_end
      → Answers Done (IsTheRun table (hands_of table items))
  pub drop : (table : Table) (items : List Item) → Asks (Drop table items) → table.mode ≡ Aperiodic
      → IsTrue (is_accepted (verdict_of table)) → LastIsLong table (hands_of table items)
      → drop_end table (hands_of table items) ≤ longest_end → Answers Done (IsTheDrop table (hands_of table items))
  pub schedule : (table : Table) (items : List Item) → Asks (Schedule table items) → AreEvenItems table items
      → closed_end table (hands_of table items) ≤ longest_end
      → Answers Done (Is (TheTrace (scheduled table (hands_of table items)))) × IsScheduled table (hands_of table items)
  pub receive : (table : Table) (trace : Recording) → Asks (Receive table trace)
      → Answers Done (Is (TheReceipts (receipts_of table trace.list)))
  pub audit : (table : Table) (trace : Recording) → Asks (Audit table trace)
      → (answer : AuditAnswer) × IsFinding table trace answer × Answers (yes_or_no (is_lawful answer)) (Is (TheAudit answer))
  pub diagnose : (bounds : Bounds) (table : Table) (trace : Recording) → Asks (Diagnose bounds table trace)
      → Answers (yes_or_no (not (has_fault bounds table trace))) (Is (TheFindings bounds table trace)) × TellsFindings bounds table trace
  pub vote : (table : Table) (trace : Recording) → Asks (Vote table trace)
      → Answers Done (Is (TheVotes table trace.list)) × TellsVotes table trace.list
  pub wave : (table : Table) (trace : Recording) → Asks (Wave table trace)
      → (IsSpaced table trace → Answers Done (Is (TheWave trace))) × (status ≡ Done → IsSpaced table trace) × HasAWave table trace
  pub unwave : (table : Table) (trace : Recording) → Asks (Unwave table trace) → Answers Done (Is (TheTrace trace))
  pub explain : (text : List ℕ) → Asks (Explain text)
      → Answers (yes_or_no (is_accepting (answer_of text))) (Is (TheExplanation text)) × ExplainsText text
  pub explain_beside : (table text : List ℕ) → Asks (ExplainBeside table text)
      → Answers (yes_or_no (is_right_beside table text)) (Is (TheDiagnosis table text))
      × ((valid : Table) → IsTrue (is_valid valid) → IsTrue (is_accepted (verdict_of valid)) → TellsBeside valid text)
  pub facts : (text : List ℕ) → Asks (Facts text)
      → Answers (yes_or_no (is_accepting (answer_of text))) (Is (TheFacts text)) × TellsFacts text
  pub cable : (table : Table) (cable : Cable) (items : List Item) (horizon : ℕ) → Asks (OnCable table cable items horizon)
      → Answers Done (IsTheTraceOnCable table cable (hands_of table items) horizon)
  pub itself : (about : About) → Asks (Itself about) → Answers Done (Is (OfItself about)) × (status ≡ Done)
