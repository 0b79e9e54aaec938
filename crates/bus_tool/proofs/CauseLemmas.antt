-- The cause of each refusal of a text, by what is due.
use Rattle.std.specs.Prelude.{◌≡◌, ℕ, List, [], Result, Ok, Err}
use Rattle.std.proofs.Common.{refl, sym, ap, subst, inl, inr}
use Rattle.bus_strings.specs.Items.{Item}
use Rattle.bus_table.specs.Tables.{Table}
use Rattle.bus_table.specs.declared.mode.Mode.TheVariants.{Aperiodic, Periodic}
use Rattle.bus_dropout.specs.DropOut.{drop_end}
use Rattle.bus_margins.specs.declared.level.Level.{Level}
use Rattle.bus_margins.specs.declared.level.Level.TheVariants.{Any, Common, Neither}
use Rattle.bus_margins.specs.Rooms.{level_of}
use Rattle.bus_bounds.specs.Bounds.{Bounds}
use Rattle.bus_margins_periodic.specs.declared.level.Level.{Level as TurnsLevel}
use Rattle.bus_margins_periodic.specs.declared.level.Level.TheVariants.{Turns, Leads, Neither as Unkept}
use Rattle.bus_margins_periodic.specs.Margins.{level_of as turns_level}
use Rattle.bus_table.specs.declared.mode.Mode.{Mode}
use Rattle.bus_plan.specs.Answers.{plan_of}
use Rattle.bus_cable_plan.specs.declared.planning.CablePlan.{CablePlan}
use Rattle.bus_made.specs.declared.answer.Answer.{Answer as MadeAnswer}
use Rattle.bus_made.specs.declared.answer.Answer.TheVariants.{Made, Infeasible as NotMade, Late}
use Rattle.bus_made.specs.Answers.{answer_of as design_answer}
use Rattle.bus_cable_plan.specs.declared.planning.CablePlan.TheVariants.{Planned as CablePlanned, Infeasible as NoneBears, Undecided}
use Rattle.bus_plan.specs.declared.planning.PlanAnswer.{PlanAnswer}
use Rattle.bus_plan.specs.declared.planning.PlanAnswer.TheVariants.{Planned, Infeasible}
use Rattle.bus_regime.specs.Verdicts.{verdict_of}
use Rattle.bus_regime.specs.declared.table_verdict.TableVerdict.{TableVerdict}
use Rattle.bus_regime.specs.declared.table_verdict.TableVerdict.TheVariants.{Accept, ShortCycle, SmallGap, NoSync}
use Rattle.bus_schedule.specs.Closed.{closed_end}
use Rattle.bus_wave.specs.WaveLaws.{WavesReadBack}
use Rattle.bus_command.specs.Causes.{AreTextsWith, RefusesTexts}
use Rattle.bus_command.specs.Due.{Inputs, hands_in, inputs_by, traced_due, any_trace, outcome_with}
use Rattle.bus_command.proofs.ActLaws.{DueHasCause}
use Rattle.bus_command.proofs.ReadLemmas.{CauseLaws, table_cause, table_valid, items_cause, items_read, inputs_read, inputs_stop, trace_cause, traced_stop}
use Rattle.bus_tool.specs.Acts.{tool_program}
use Rattle.bus_tool.specs.Causes.{Cause, EndIs, IsEndOf, IsNoEnd, DifferAs, IsRefusal, IsShortLast, IsLongEnd}
use Rattle.bus_tool.specs.Due.{table_for, verdict_outcome, plan_outcome, cable_plan_of, cable_plan_outcome, design_outcome, level_outcome, turns_outcome, outcome_in, margins_outcome, can_run, can_drop, can_schedule, unwave_due, wave_trace_due}
use Rattle.bus_tool.specs.Due.{table_answer, inputs_answer, traced_answer, unwave_answer}
use Rattle.bus_tool.proofs.DiagnoseLemmas.{beside_cause}
use Rattle.bus_tool.proofs.ExplainLemmas.{explain_cause}
use Rattle.bus_tool.specs.Forms.{OnTable, OnMessages, OnTrace, Unwave, Drill, OnItself, Explain, ExplainBeside, Facts, Cable, TableCommand, Check, Tolerance, Tidy, Report, Witness, Plan, PlanFor, Margins, Design}
use Rattle.bus_tool.specs.Forms.{MessagesCommand, Observe, Run, Drop, Schedule, table_mode, messages_mode}
use Rattle.bus_tool.specs.Refusals.{Outcome, ToolRefusal}
use Rattle.bus_tool.proofs.AnswerLaws.{done_with}
use Rattle.bus_tool.proofs.ModeLemmas.{mode_read, mode_cause}
use Rattle.bus_tool.proofs.RunCauses.{NotRun, Differ, Refused, Longer, run_err, NotDropped, Undropped, Shorter, Overlong, drop_err, NotScheduled, Odd, Endless, schedule_err}
use Rattle.bus_tool.proofs.TraceAnswers.{trace_answer_cause}
use Rattle.bus_tool.proofs.WaveLemmas.{wave_cause}
use Rattle.bus_tool.specs.Due.{cable_answer, cable_due}
use Rattle.bus_tool.proofs.CableLemmas.{CableLaws, cable_cause}

-- a refusal that is due, or the answer to a value
module _ {Y : Type 0} (P : Outcome → Type 0) (answer : Y → Outcome) where
  due_or : (due : Result Y Outcome) (o : Outcome) → ((y : Y) → due ≡ Ok y → P (answer y)) → (due ≡ Err o → P o) → outcome_with answer due ≡ o → P o
  due_or (Ok y) o given stop h = subst P h (given y refl)
  due_or (Err r) o given stop h = stop (ap Err h)

-- ---- the answers
verdict_cause : (IsEnd : EndIs) (first second : List ℕ) (verdict : TableVerdict) → RefusesTexts (Cause IsEnd) (verdict_outcome verdict) first second
verdict_cause IsEnd first second (Accept mode least most) = tt
verdict_cause IsEnd first second (ShortCycle least ti) = tt
verdict_cause IsEnd first second (SmallGap terminal gap needed) = tt
verdict_cause IsEnd first second (NoSync terminal gap needed) = tt

plan_cause : (IsEnd : EndIs) (first second : List ℕ) (answer : PlanAnswer) → RefusesTexts (Cause IsEnd) (plan_outcome answer) first second
plan_cause IsEnd first second (Planned table) = tt
plan_cause IsEnd first second (Infeasible least ti) = tt

cable_plan_cause : (IsEnd : EndIs) (first second : List ℕ) (answer : CablePlan) → RefusesTexts (Cause IsEnd) (cable_plan_outcome answer) first second
cable_plan_cause IsEnd first second (CablePlanned table) = tt
cable_plan_cause IsEnd first second (NoneBears least ti) = tt
cable_plan_cause IsEnd first second (Undecided least ti) = tt

design_cause : (IsEnd : EndIs) (first second : List ℕ) (answer : MadeAnswer) → RefusesTexts (Cause IsEnd) (design_outcome answer) first second
design_cause IsEnd first second (Made made) = tt
design_cause IsEnd first second (NotMade terminal blame) = tt
design_cause IsEnd first second (Late lack) = tt

level_cause : (IsEnd : EndIs) (first second : List ℕ) (level : Level) → RefusesTexts (Cause IsEnd) (level_outcome level) first second
level_cause IsEnd first second Any = tt
level_cause IsEnd first second Common = tt
level_cause IsEnd first second Neither = tt

turns_cause : (IsEnd : EndIs) (first second : List ℕ) (level : TurnsLevel) → RefusesTexts (Cause IsEnd) (turns_outcome level) first second
turns_cause IsEnd first second Turns = tt
turns_cause IsEnd first second Leads = tt
turns_cause IsEnd first second Unkept = tt

cause_in : (IsEnd : EndIs) (first second : List ℕ) (mode : Mode) (bounds : Bounds) (table : Table)
    → RefusesTexts (Cause IsEnd) (outcome_in mode bounds table) first second
cause_in IsEnd first second Aperiodic bounds table = level_cause IsEnd first second (level_of bounds table)
cause_in IsEnd first second Periodic bounds table = turns_cause IsEnd first second (turns_level bounds table)

margins_cause : (IsEnd : EndIs) (first second : List ℕ) (verdict : TableVerdict) (bounds : Bounds) (table : Table)
    → RefusesTexts (Cause IsEnd) (margins_outcome verdict bounds table) first second
margins_cause IsEnd first second (Accept mode least most) bounds table = cause_in IsEnd first second table.mode bounds table
margins_cause IsEnd first second (ShortCycle least ti) bounds table = tt
margins_cause IsEnd first second (SmallGap terminal gap needed) bounds table = tt
margins_cause IsEnd first second (NoSync terminal gap needed) bounds table = tt

table_answer_cause : (IsEnd : EndIs) (command : TableCommand) (first second : List ℕ) (table : Table) → RefusesTexts (Cause IsEnd) (table_answer command table) first second
table_answer_cause IsEnd Check first second table = verdict_cause IsEnd first second (verdict_of table)
table_answer_cause IsEnd Tolerance first second table = verdict_cause IsEnd first second (verdict_of table)
table_answer_cause IsEnd Tidy first second table = tt
table_answer_cause IsEnd Report first second table = verdict_cause IsEnd first second (verdict_of table)
table_answer_cause IsEnd Witness first second table = tt
table_answer_cause IsEnd Plan first second table = plan_cause IsEnd first second (plan_of table)
table_answer_cause IsEnd (PlanFor delay) first second table = cable_plan_cause IsEnd first second (cable_plan_of delay table)
table_answer_cause IsEnd (Margins bounds) first second table = margins_cause IsEnd first second (verdict_of table) bounds table
table_answer_cause IsEnd (Design bounds order) first second table = design_cause IsEnd first second (design_answer bounds order [] table)

-- ---- a table and messages
-- the texts of inputs that were read, of which this holds
texts_with : CauseLaws → (command : MessagesCommand) (Holds : Table → List Item → Type 0) (first second : List ℕ) (inputs : Inputs)
    → inputs_by (table_for (messages_mode command)) first second ≡ Ok inputs → Holds inputs.table inputs.items → AreTextsWith Holds first second
texts_with laws command Holds first second inputs h why =
    let read = inputs_read (table_for (messages_mode command)) first second inputs h in
    let items = items_read {R = ToolRefusal} inputs.table second inputs.items read.items_are in
    record {
      table = inputs.table;
      items = inputs.items;
      table_is = table_valid {R = ToolRefusal} laws first inputs.table (mode_read (messages_mode command) first inputs.table read.table_is).0;
      items_stand = laws.reads_items second inputs.items items.read;
      fit = items.fits;
      why = why;
    }

not_run : CauseLaws → (first second : List ℕ) (inputs : Inputs) (o : Outcome) → inputs_by (table_for (messages_mode Run)) first second ≡ Ok inputs
    → NotRun inputs.table (hands_in inputs) o → RefusesTexts (Cause (IsEndOf Run)) o first second
not_run laws first second inputs o h (Differ uneven why e) =
    subst (λ r. RefusesTexts (Cause (IsEndOf Run)) r first second) (sym e) (texts_with laws Run (DifferAs uneven) first second inputs h why)
not_run laws first second inputs o h (Refused why e) =
    subst (λ r. RefusesTexts (Cause (IsEndOf Run)) r first second) (sym e)
    (texts_with laws Run (IsRefusal (verdict_of inputs.table)) first second inputs h (refl, why))
not_run laws first second inputs o h (Longer even accepted why e) =
    subst (λ r. RefusesTexts (Cause (IsEndOf Run)) r first second) (sym e)
    (texts_with laws Run (IsLongEnd (IsEndOf Run) (closed_end inputs.table (hands_in inputs))) first second inputs h
    (record { end_is = (accepted, (even, refl)); above = why }))

aperiodic : (first second : List ℕ) (inputs : Inputs) → inputs_by (table_for (messages_mode Drop)) first second ≡ Ok inputs → inputs.table.mode ≡ Aperiodic
aperiodic first second inputs h =
    (mode_read (messages_mode Drop) first inputs.table (inputs_read (table_for (messages_mode Drop)) first second inputs h).table_is).1

not_dropped : CauseLaws → (first second : List ℕ) (inputs : Inputs) (o : Outcome) → inputs_by (table_for (messages_mode Drop)) first second ≡ Ok inputs
    → NotDropped inputs.table (hands_in inputs) o → RefusesTexts (Cause (IsEndOf Drop)) o first second
not_dropped laws first second inputs o h (Undropped why e) =
    subst (λ r. RefusesTexts (Cause (IsEndOf Drop)) r first second) (sym e)
    (texts_with laws Drop (IsRefusal (verdict_of inputs.table)) first second inputs h (refl, why))
not_dropped laws first second inputs o h (Shorter accepted least is less e) =
    subst (λ r. RefusesTexts (Cause (IsEndOf Drop)) r first second) (sym e)
    (texts_with laws Drop (IsShortLast least inputs.table.ti) first second inputs h
    (record { aperiodic = aperiodic first second inputs h; accepted = accepted; last = is; interval = refl; shorter = less }))
not_dropped laws first second inputs o h (Overlong accepted long why e) =
    subst (λ r. RefusesTexts (Cause (IsEndOf Drop)) r first second) (sym e)
    (texts_with laws Drop (IsLongEnd (IsEndOf Drop) (drop_end inputs.table (hands_in inputs))) first second inputs h
    (record { end_is = (accepted, (aperiodic first second inputs h, long, refl)); above = why }))

not_scheduled : CauseLaws → (first second : List ℕ) (inputs : Inputs) (o : Outcome) → inputs_by (table_for (messages_mode Schedule)) first second ≡ Ok inputs
    → NotScheduled inputs.table (hands_in inputs) o → RefusesTexts (Cause (IsEndOf Schedule)) o first second
not_scheduled laws first second inputs o h (Odd uneven why e) =
    subst (λ r. RefusesTexts (Cause (IsEndOf Schedule)) r first second) (sym e) (texts_with laws Schedule (DifferAs uneven) first second inputs h why)
not_scheduled laws first second inputs o h (Endless even why e) =
    subst (λ r. RefusesTexts (Cause (IsEndOf Schedule)) r first second) (sym e)
    (texts_with laws Schedule (IsLongEnd (IsEndOf Schedule) (closed_end inputs.table (hands_in inputs))) first second inputs h
    (record { end_is = (even, refl); above = why }))

-- what was asked of the inputs was refused, or they are answered
messages_answer_cause : CauseLaws → (command : MessagesCommand) (first second : List ℕ) (inputs : Inputs)
    → inputs_by (table_for (messages_mode command)) first second ≡ Ok inputs
    → RefusesTexts (Cause (IsEndOf command)) (inputs_answer command inputs) first second
messages_answer_cause laws (Observe horizon) first second inputs h = tt
messages_answer_cause laws Run first second inputs h =
    due_or (λ o. RefusesTexts (Cause (IsEndOf Run)) o first second) done_with (can_run inputs.table (hands_in inputs)) (inputs_answer Run inputs)
    (λ u e. tt) (λ e. not_run laws first second inputs (inputs_answer Run inputs) h (run_err inputs.table (hands_in inputs) (inputs_answer Run inputs) e)) refl
messages_answer_cause laws Drop first second inputs h =
    due_or (λ o. RefusesTexts (Cause (IsEndOf Drop)) o first second) done_with (can_drop inputs.table (hands_in inputs)) (inputs_answer Drop inputs)
    (λ u e. tt) (λ e. not_dropped laws first second inputs (inputs_answer Drop inputs) h (drop_err inputs.table (hands_in inputs) (inputs_answer Drop inputs) e)) refl
messages_answer_cause laws Schedule first second inputs h =
    due_or (λ o. RefusesTexts (Cause (IsEndOf Schedule)) o first second) done_with (can_schedule inputs.table (hands_in inputs)) (inputs_answer Schedule inputs)
    (λ u e. tt) (λ e. not_scheduled laws first second inputs (inputs_answer Schedule inputs) h (schedule_err inputs.table (hands_in inputs) (inputs_answer Schedule inputs) e)) refl

inputs_cause : CauseLaws → (command : MessagesCommand) (first second : List ℕ) (o : Outcome)
    → inputs_by (table_for (messages_mode command)) first second ≡ Err o → RefusesTexts (Cause (IsEndOf command)) o first second
inputs_cause laws command first second o h = elim (inputs_stop (table_for (messages_mode command)) first second o h) [
  | inl e ↦ mode_cause laws (IsEndOf command) (messages_mode command) first second o e
  | inr w ↦ items_cause laws (Cause (IsEndOf command)) first second w.0 o
      (table_valid {R = ToolRefusal} laws first w.0 (mode_read (messages_mode command) first w.0 w.1).0) w.2
]

-- ---- a table and a trace
traced_cause : CauseLaws → (IsEnd : EndIs) (first second : List ℕ) (o : Outcome) → traced_due first second ≡ Err o → RefusesTexts (Cause IsEnd) o first second
traced_cause laws IsEnd first second o h = elim (traced_stop {R = ToolRefusal} any_trace first second o h) [
  | inl e ↦ table_cause laws (Cause IsEnd) first second o e
  | inr w ↦ trace_cause laws (Cause IsEnd) first second o w.2
]

-- ---- the forms
unwave_cause : CauseLaws → WavesReadBack → (first second : List ℕ) (o : Outcome) → unwave_due first second ≡ Err o → RefusesTexts (Cause IsNoEnd) o first second
unwave_cause laws back first second o h = elim (traced_stop wave_trace_due first second o h) [
  | inl e ↦ table_cause laws (Cause IsNoEnd) first second o e
  | inr w ↦ wave_cause back IsNoEnd first second w.0 o (table_valid {R = ToolRefusal} laws first w.0 w.1) w.2
]

pub due_has_cause : CauseLaws → WavesReadBack → CableLaws → DueHasCause tool_program
due_has_cause laws back cables (OnTable command) first second o h =
    due_or (λ o. RefusesTexts (Cause IsNoEnd) o first second) (table_answer command) (table_for (table_mode command) first) o
    (λ table e. table_answer_cause IsNoEnd command first second table)
    (λ e. mode_cause laws IsNoEnd (table_mode command) first second o e) h
due_has_cause laws back cables (OnMessages command) first second o h =
    due_or (λ o. RefusesTexts (Cause (IsEndOf command)) o first second) (inputs_answer command) (inputs_by (table_for (messages_mode command)) first second) o
    (λ inputs e. messages_answer_cause laws command first second inputs e)
    (λ e. inputs_cause laws command first second o e) h
due_has_cause laws back cables (OnTrace command) first second o h =
    due_or (λ o. RefusesTexts (Cause IsNoEnd) o first second) (traced_answer command) (traced_due first second) o
    (λ traced e. trace_answer_cause laws command first second traced e)
    (λ e. traced_cause laws IsNoEnd first second o e) h
due_has_cause laws back cables Unwave first second o h =
    due_or (λ o. RefusesTexts (Cause IsNoEnd) o first second) unwave_answer (unwave_due first second) o (λ traced e. tt)
    (λ e. unwave_cause laws back first second o e) h
due_has_cause laws back cables Explain first second o h = explain_cause IsNoEnd first second o h
due_has_cause laws back cables ExplainBeside first second o h = beside_cause IsNoEnd first second o h
due_has_cause laws back cables Facts first second o h = explain_cause IsNoEnd first second o h
due_has_cause laws back cables (OnItself about) first second o h = subst (λ o. RefusesTexts (Cause IsNoEnd) o first second) h tt
due_has_cause laws back cables (Drill number) first second o h = subst (λ o. RefusesTexts (Cause IsNoEnd) o first second) h tt
due_has_cause laws back cables (Cable horizon) first second o h =
    due_or (λ o. RefusesTexts (Cause IsNoEnd) o first second) cable_answer (cable_due first second) o (λ inputs e. tt)
    (λ e. cable_cause laws cables IsNoEnd first second o e) h
