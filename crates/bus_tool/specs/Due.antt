-- What is due of a command's texts: the outcome, where nothing outside fails and memory is granted. What a group takes is said once,
-- and a command says its answer to that.
use Rattle.std.specs.Prelude.{ℕ, Bool, true, false, nat_lt, List, [], Option, Some, None, Result, Ok, Err, if◌then◌else◌}
use Rattle.bus_text.specs.AllOf.{◌>>=◌}
use Rattle.bus_table.specs.declared.mode.Mode.{Mode}
use Rattle.bus_table.specs.declared.mode.Mode.TheVariants.{Aperiodic, Periodic}
use Rattle.bus_table.specs.declared.error.TableError.{TableError}
use Rattle.bus_table.specs.Reading.{answer_of as table_answer_of}
use Rattle.bus_table.specs.Tables.{Table, Hand}
use Rattle.bus_regime.specs.declared.table_verdict.TableVerdict.{TableVerdict}
use Rattle.bus_regime.specs.declared.table_verdict.TableVerdict.TheVariants.{Accept, ShortCycle, SmallGap, NoSync}
use Rattle.bus_regime.specs.Verdicts.{verdict_of, is_accepted}
use Rattle.bus_plan.specs.declared.planning.PlanAnswer.{PlanAnswer}
use Rattle.bus_plan.specs.declared.planning.PlanAnswer.TheVariants.{Planned, Infeasible}
use Rattle.bus_plan.specs.Answers.{plan_of}
use Rattle.bus_cable_plan.specs.declared.planning.CablePlan.{CablePlan}
use Rattle.bus_cable_plan.specs.declared.planning.CablePlan.TheVariants.{Planned as CablePlanned, Infeasible as NoneBears, Undecided}
use Rattle.bus_cable_plan.specs.Answers.{plan_for_of, plan_best_of}
use Rattle.bus_bounds.specs.Bounds.{Bounds}
use Rattle.bus_made.specs.declared.answer.Answer.{Answer as Design}
use Rattle.bus_made.specs.declared.answer.Answer.TheVariants.{Made, Infeasible as NotMade, Late}
use Rattle.bus_made.specs.Answers.{answer_of as design_answer}
use Rattle.bus_margins.specs.declared.level.Level.{Level}
use Rattle.bus_margins.specs.declared.level.Level.TheVariants.{Any, Common, Neither}
use Rattle.bus_margins.specs.Rooms.{level_of}
use Rattle.bus_margins_periodic.specs.declared.level.Level.{Level as TurnsLevel}
use Rattle.bus_margins_periodic.specs.declared.level.Level.TheVariants.{Turns, Leads, Neither as Unkept}
use Rattle.bus_margins_periodic.specs.Margins.{level_of as turns_level}
use Rattle.bus_dropout.specs.DropOut.{last_cycle, drop_end}
use Rattle.bus_schedule.specs.declared.uneven.Uneven.{Uneven as UnevenHands}
use Rattle.bus_schedule.specs.Closed.{closed_end}
use Rattle.bus_schedule.specs.Limits.{longest_end}
use Rattle.bus_schedule.specs.Uneven.{uneven_of}
use Rattle.bus_trace.specs.Traces.{Recording}
use Rattle.bus_wave.specs.declared.fault.WaveFault.{WaveFault}
use Rattle.bus_wave.specs.Reading.{WaveRefusal, wave_reading}
use Rattle.bus_wave.specs.Spacing.{spaced_of}
use Rattle.bus_audit.specs.declared.answer.AuditAnswer.{AuditAnswer}
use Rattle.bus_audit.specs.declared.answer.AuditAnswer.TheVariants.{Lawful, Breach}
use Rattle.bus_audit.specs.Breaches.{answer_of}
use Rattle.bus_findings.specs.Terminals.{has_fault}
use Rattle.bus_text.specs.Refusals.{Refusal}
use Rattle.bus_strings.specs.Items.{Item}
use Rattle.bus_table.specs.declared.fit.FitError.{FitError}
use Rattle.bus_table.specs.Fits.{items_fit}
use Rattle.bus_table.specs.Hands.{hands_of}
use Rattle.bus_cable.specs.Cables as cables
use Rattle.bus_cable.specs.Reading.{cable_reading}
use Rattle.bus_command.specs.declared.inputs.Traced.{Traced}
use Rattle.bus_command.specs.declared.outcome.Outcome.TheVariants.{Done, Answered}
use Rattle.bus_command.specs.Due.{text_within, table_due, Inputs, hands_in, traced_by}
use Rattle.bus_command.specs.Due.{outcome_with}
use Rattle.bus_command.specs.Stages.{refusal_in}
use Rattle.bus_tool.specs.Forms.{TableCommand, Check, Tolerance, Tidy, Report, Witness, Plan, PlanFor, Margins, Design as DesignFor, PlanDelay, Bits, Greatest}
use Rattle.bus_command.specs.Readers.{text_limit}
use Rattle.bus_tool.specs.Forms.{MessagesCommand, Observe, Run, Drop, Schedule, TraceCommand, Receive, Audit, Vote, Wave, Diagnose}
use Rattle.bus_tool.specs.Forms.{wave_limit}
use Rattle.bus_tool.specs.Refusals.{Outcome, refuse, TableMode, Unspaced, WaveText, Uneven, NotAccepted, ShortLast, TooLong}
use Rattle.bus_tool.specs.Refusals.{CableText, CableUnfit}

-- ---- a table, maybe of one mode
-- Whether a mode is the one that is needed.
abbrev pub is_mode : Mode → Mode → Bool
is_mode Aperiodic Aperiodic = true
is_mode Aperiodic Periodic = false
is_mode Periodic Aperiodic = false
is_mode Periodic Periodic = true

-- A table, where its mode is the one that is needed.
abbrev pub mode_or_refusal : Mode → Table → Result Table Outcome
mode_or_refusal needed table = if is_mode needed table.mode then Ok table else Err (refuse (TableMode needed))

-- A table, where its mode is the one that is needed, if one is.
abbrev pub needed_or_refusal : Option Mode → Table → Result Table Outcome
needed_or_refusal None table = Ok table
needed_or_refusal (Some needed) table = mode_or_refusal needed table

-- The table of the first text, where it is of the mode that is needed.
abbrev pub table_for : Option Mode → List ℕ → Result Table Outcome
table_for mode text = table_due text >>= needed_or_refusal mode

-- Why the first text is refused.
abbrev pub refusal_for : Option Mode → List ℕ → Option Outcome
refusal_for mode text = refusal_in (table_for mode text)

-- ---- a table and a wave
-- What a wave text reads as, or the outcome of its refusal.
abbrev pub wave_or_refusal : Result Recording WaveRefusal → Result Recording Outcome
wave_or_refusal (Ok trace) = Ok trace
wave_or_refusal (Err refusal) = Err (refuse (WaveText refusal.line refusal.reason))

-- The trace whose wave text the second text is.
abbrev pub wave_trace_due : Table → List ℕ → Result Recording Outcome
wave_trace_due table text = text_within wave_limit 2 text >>= λ whole. wave_or_refusal (wave_reading table whole)

-- A table and the trace of a wave.
abbrev pub unwave_due : List ℕ → List ℕ → Result Traced Outcome
unwave_due first second = traced_by wave_trace_due first second

-- ---- a table and a cable
-- What a cable text gives: where the terminals are and when they wake, and the items.
abbrev pub CableRead : Type 0
CableRead = cables.Cable × List Item

-- What a cable text reads as, or the outcome of its refusal.
abbrev pub cable_or_refusal : Result CableRead Refusal → Result CableRead Outcome
cable_or_refusal (Ok read) = Ok read
cable_or_refusal (Err refusal) = Err (refuse (CableText refusal.line refusal.reason))

-- The cable and the items of the second text.
abbrev pub cable_text_due : List ℕ → Result CableRead Outcome
cable_text_due text = text_within text_limit 2 text >>= λ whole. cable_or_refusal (cable_reading whole)

-- They, where each item fits its sender.
abbrev pub fitting_on_cable : Result (Unit {0}) FitError → CableRead → Result CableRead Outcome
fitting_on_cable (Ok fit) read = Ok read
fitting_on_cable (Err error) read = Err (refuse (CableUnfit error))

-- The cable and the items of the second text, each of which fits its sender.
abbrev pub cable_read_due : Table → List ℕ → Result CableRead Outcome
cable_read_due table text = cable_text_due text >>= λ read. fitting_on_cable (items_fit table read.1) read

-- A table, a cable, and items that fit the table.
pub record CableInputs : Type 0 where
  pub table : Table
  pub cable : cables.Cable
  pub items : List Item

-- These together.
abbrev pub with_cable : Table → CableRead → CableInputs
with_cable table read = record { table = table; cable = read.0; items = read.1 }

-- The hands of the table's senders.
abbrev pub cable_hands : CableInputs → List Hand
cable_hands inputs = hands_of inputs.table inputs.items

-- The table of the first text, and the cable and items of the second, which is looked at only where nothing of the first is refused.
abbrev pub cable_due : List ℕ → List ℕ → Result CableInputs Outcome
cable_due first second = table_due first >>= λ table. cable_read_due table second >>= λ read. Ok (with_cable table read)

-- ---- what `run`, `schedule` and `drop` ask of a table and hands
-- Why hands aren't even.
abbrev pub uneven_refusal : UnevenHands → Outcome
uneven_refusal u = refuse (Uneven u.one u.one_count u.other u.other_count)

-- Even hands.
abbrev pub even_due : Option UnevenHands → Result (Unit {0}) Outcome
even_due None = Ok tt
even_due (Some uneven) = Err (uneven_refusal uneven)

-- An accepted table.
abbrev pub accepted_due : TableVerdict → Result (Unit {0}) Outcome
accepted_due verdict = if is_accepted verdict then Ok tt else Err (refuse (NotAccepted verdict))

-- An end of a schedule within its limit.
abbrev pub short_due : ℕ → Result (Unit {0}) Outcome
short_due end = if nat_lt longest_end end then Err (refuse (TooLong end)) else Ok tt

-- Even hands and an accepted table, in this order.
abbrev pub may_run : Table → List Hand → Result (Unit {0}) Outcome
may_run table hands = even_due (uneven_of table hands) >>= λ _. accepted_due (verdict_of table)

-- And then a closed end within its limit.
abbrev pub can_run : Table → List Hand → Result (Unit {0}) Outcome
can_run table hands = may_run table hands >>= λ _. short_due (closed_end table hands)

-- Even hands and a closed end within its limit, in this order, whatever the verdict is.
abbrev pub can_schedule : Table → List Hand → Result (Unit {0}) Outcome
can_schedule table hands = even_due (uneven_of table hands) >>= λ _. short_due (closed_end table hands)

-- A last cycle that is no shorter than the transmit interval, where there is one.
abbrev pub last_due : Option ℕ → ℕ → Result (Unit {0}) Outcome
last_due None ti = Ok tt
last_due (Some least) ti = if nat_lt least ti then Err (refuse (ShortLast least ti)) else Ok tt

-- An accepted table and such a last cycle, in this order.
abbrev pub may_drop : Table → List Hand → Result (Unit {0}) Outcome
may_drop table hands = accepted_due (verdict_of table) >>= λ _. last_due (last_cycle table hands) table.ti

-- And then an end of the drop-out schedule within its limit.
abbrev pub can_drop : Table → List Hand → Result (Unit {0}) Outcome
can_drop table hands = may_drop table hands >>= λ _. short_due (drop_end table hands)

-- ---- the answers
-- Yes where the table is accepted, else no.
abbrev pub verdict_outcome : TableVerdict → Outcome
verdict_outcome (Accept mode least most) = Done
verdict_outcome (ShortCycle least ti) = Answered
verdict_outcome (SmallGap terminal gap needed) = Answered
verdict_outcome (NoSync terminal gap needed) = Answered

-- Yes where there is a plan, else no.
abbrev pub plan_outcome : PlanAnswer → Outcome
plan_outcome (Planned table) = Done
plan_outcome (Infeasible least ti) = Answered

-- The plan of a table for this delay.
abbrev pub cable_plan_of : PlanDelay → Table → CablePlan
cable_plan_of (Bits d) table = plan_for_of d table
cable_plan_of Greatest table = plan_best_of table

-- Yes where there is a plan, else no.
abbrev pub cable_plan_outcome : CablePlan → Outcome
cable_plan_outcome (CablePlanned table) = Done
cable_plan_outcome (NoneBears least ti) = Answered
cable_plan_outcome (Undecided least ti) = Answered

-- Yes where an aperiodic table has a level, else no.
abbrev pub level_outcome : Level → Outcome
level_outcome Any = Done
level_outcome Common = Done
level_outcome Neither = Answered

-- Yes where a periodic one has a level, else no.
abbrev pub turns_outcome : TurnsLevel → Outcome
turns_outcome Turns = Done
turns_outcome Leads = Done
turns_outcome Unkept = Answered

-- Yes where a table of this mode has a level within these bounds, else no.
abbrev pub outcome_in : Mode → Bounds → Table → Outcome
outcome_in Aperiodic bounds table = level_outcome (level_of bounds table)
outcome_in Periodic bounds table = turns_outcome (turns_level bounds table)

-- Yes where a table with this verdict is accepted and has a level, else no.
abbrev pub margins_outcome : TableVerdict → Bounds → Table → Outcome
margins_outcome (Accept mode least most) bounds table = outcome_in table.mode bounds table
margins_outcome (ShortCycle least ti) bounds table = Answered
margins_outcome (SmallGap terminal gap needed) bounds table = Answered
margins_outcome (NoSync terminal gap needed) bounds table = Answered

-- Yes where a table is made, else no.
abbrev pub design_outcome : Design → Outcome
design_outcome (Made made) = Done
design_outcome (NotMade terminal blame) = Answered
design_outcome (Late lack) = Answered

-- Yes where nothing is found against the trace, else no.
abbrev pub audit_outcome : AuditAnswer → Outcome
audit_outcome (Lawful collided) = Done
audit_outcome (Breach moment terminal kind) = Answered

-- No where a fault is found in the trace, else yes.
abbrev pub findings_outcome : Bool → Outcome
findings_outcome true = Answered
findings_outcome false = Done

-- A spaced trace is answered, another refused.
abbrev pub spaced_outcome : Result (Unit {0}) WaveFault → Outcome
spaced_outcome (Ok spaced) = Done
spaced_outcome (Err fault) = refuse (Unspaced fault)

-- What is answered to a table.
abbrev pub table_answer : TableCommand → Table → Outcome
table_answer Check table = verdict_outcome (verdict_of table)
table_answer Tolerance table = verdict_outcome (verdict_of table)
table_answer Tidy table = Done
table_answer Report table = verdict_outcome (verdict_of table)
table_answer Witness table = Done
table_answer Plan table = plan_outcome (plan_of table)
table_answer (PlanFor delay) table = cable_plan_outcome (cable_plan_of delay table)
table_answer (Margins bounds) table = margins_outcome (verdict_of table) bounds table
table_answer (DesignFor bounds order) table = design_outcome (design_answer bounds order [] table)

-- What is answered to a table and hands, or why nothing is.
abbrev pub messages_answer : MessagesCommand → Table → List Hand → Outcome
messages_answer (Observe horizon) table hands = Done
messages_answer Run table hands = outcome_with (λ _. Done) (can_run table hands)
messages_answer Drop table hands = outcome_with (λ _. Done) (can_drop table hands)
messages_answer Schedule table hands = outcome_with (λ _. Done) (can_schedule table hands)

-- What is answered to a table and a trace, or why nothing is.
abbrev pub trace_answer : TraceCommand → Table → Recording → Outcome
trace_answer Receive table trace = Done
trace_answer Audit table trace = audit_outcome (answer_of table trace)
trace_answer Vote table trace = Done
trace_answer Wave table trace = spaced_outcome (spaced_of table trace)
trace_answer (Diagnose bounds) table trace = findings_outcome (has_fault bounds table trace)

-- The same to inputs, and to what was taken of both texts.
abbrev pub inputs_answer : MessagesCommand → Inputs → Outcome
inputs_answer command inputs = messages_answer command inputs.table (hands_in inputs)

-- The same to a table and a trace together.
abbrev pub traced_answer : TraceCommand → Traced → Outcome
traced_answer command traced = trace_answer command traced.table traced.trace

-- What `unwave` answers to a table and the trace of a wave.
abbrev pub unwave_answer : Traced → Outcome
unwave_answer traced = Done

-- Yes where a text gives a table that is accepted, else no.
abbrev pub text_outcome : Result Table TableError → Outcome
text_outcome (Ok table) = verdict_outcome (verdict_of table)
text_outcome (Err error) = Answered

-- What `explain` and `facts` answer to a text, whether it is one of a table or not.
abbrev pub explain_answer : List ℕ → Outcome
explain_answer text = text_outcome (table_answer_of text)

-- What `cable` answers to a table, a cable and items.
abbrev pub cable_answer : CableInputs → Outcome
cable_answer inputs = Done
