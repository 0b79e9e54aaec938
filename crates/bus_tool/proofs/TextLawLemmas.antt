-- What a command writes is one text.
use Rattle.std.specs.Prelude.{◌≡◌, ℕ, true, false, is_some, IsOk, IsTrue, List, Option, Some, None, Result, Ok, Err}
use Rattle.std.proofs.Common.{refl, sym, ap, ◌∙◌, subst, inl, inr}
use Rattle.bus_strings.specs.Messages.{Entry}
use Rattle.bus_table.specs.Fits.{items_fit}
use Rattle.bus_table.specs.Hands.{are_hands}
use Rattle.bus_table.specs.Tables.{Table}
use Rattle.bus_table.specs.Valid.{is_valid}
use Rattle.bus_medium.specs.Lawful.{IsLawful}
use Rattle.bus_medium.specs.LawfulLaws.{OneListOfATable}
use Rattle.bus_medium.specs.CableLaws.{OneCableListOfATable}
use Rattle.bus_medium.specs.CableLawful.{IsLawfulOnCable}
use Rattle.bus_cable.specs.Cables.{delays_on, wakes_on}
use Rattle.bus_tool.specs.Due.{CableInputs, cable_hands, cable_answer, cable_due}
use Rattle.bus_tool.specs.Texts.{IsOnCable, IsCableAnswerText, on_cable_text}
use Rattle.bus_tool.proofs.CableLemmas.{both_read, cable_unwritten}
use Rattle.bus_medium.specs.Timings.{quiet_of, stations_of}
use Rattle.bus_schedule.specs.Closed.{closed, closed_end}
use Rattle.bus_dropout.specs.DropOut.{dropout, drop_end}
use Rattle.bus_dropout.specs.Laws.{DropOutIsLawful}
use Rattle.bus_schedule.specs.Even.{are_even}
use Rattle.bus_schedule.specs.Laws.{AcceptedIsClosed, EvenHandsAgree}
use Rattle.bus_trace.specs.declared.hold.Hold.{Hold}
use Rattle.bus_trace.specs.Traces.{Recording, trace_text}
use Rattle.bus_command.specs.Due.{text_due, Inputs, hands_in, inputs_by, traced_by, traced_due, any_trace, outcome_with, IsTextOf}
use Rattle.bus_command.specs.Kinds.{kind_of, is_answer}
use Rattle.bus_command.specs.Outcomes.{is_written}
use Rattle.bus_command.specs.Steps.{StopsAt}
use Rattle.bus_command.specs.declared.inputs.Traced.{Traced}
use Rattle.bus_command.proofs.LawTypes.{ReadsATable, FittingItemsGiveHands}
use Rattle.bus_command.proofs.ReadLemmas.{table_read, table_stops, items_read, items_stop, inputs_read, inputs_stop, trace_stops, traced_stop, stop_unwritten}
use Rattle.bus_tool.specs.inside.Acting.{IsOfMode}
use Rattle.bus_tool.specs.Due.{table_for, can_run, can_drop, unwave_due, wave_trace_due, table_answer, inputs_answer, traced_answer, unwave_answer, explain_answer}
use Rattle.bus_tool.specs.Commands.{command_of, outcome_for, IsTextFor}
use Rattle.bus_tool.specs.Drills.{drill_line}
use Rattle.bus_tool.specs.Explanations.{explanation}
use Rattle.bus_tool.specs.Itself.{itself_text}
use Rattle.bus_tool.proofs.ExplainLemmas.{size_unwritten}
use Rattle.bus_tool.proofs.DiagnoseLemmas.{beside_unwritten}
use Rattle.bus_tool.specs.Diagnosing.{beside_answer, beside_due, beside_told, IsToldBeside}
use Rattle.bus_facts.specs.Facts.{facts_text}
use Rattle.bus_tool.specs.Forms.{Form, OnTable, OnMessages, OnTrace, Unwave, Drill, OnItself, Explain, ExplainBeside, Facts, Cable, MessagesCommand, Observe, Run, Drop, Schedule, form_of, table_mode, messages_mode}
use Rattle.bus_tool.specs.Refusals.{Outcome, ToolRefusal}
use Rattle.bus_hands.specs.Holds.{hand_holds}
use Rattle.bus_tool.specs.Texts.{IsObserved, IsRunRecording, IsDropRecording, IsInputsText, IsTableAnswerText, IsTracedText, IsUnwavedText, IsExplanation, AreFacts}
use Rattle.bus_tool.specs.Texts.{table_answer_text, trace_answer_text, run_text, scheduled}
use Rattle.bus_tool.specs.TextLaws.{OneCommandText, AnswersHaveTexts}
use Rattle.bus_tool.proofs.AnswerLaws.{done_with}
use Rattle.bus_tool.proofs.ModeLemmas.{mode_read, mode_unwritten}
use Rattle.bus_tool.proofs.RunCauses.{run_ok, drop_ok, run_unwritten, drop_unwritten}
use Rattle.bus_tool.proofs.WaveLemmas.{wave_stops}

pub record TextLaws : Type 0 where
  pub reads_table : ReadsATable
  pub give_hands : FittingItemsGiveHands
  pub one_list : OneListOfATable
  pub one_cable : OneCableListOfATable
  pub runs : AcceptedIsClosed
  pub drops : DropOutIsLawful
  pub even_agree : EvenHandsAgree

-- ---- a table and hands
-- what was read of both texts
record Dealt (command : MessagesCommand) (inputs : Inputs) : Type 0 where
  valid : IsTrue (is_valid inputs.table)
  mode : IsOfMode (messages_mode command) inputs.table
  dealt : IsTrue (are_hands inputs.table.senders (hands_in inputs))

dealt_of : TextLaws → (command : MessagesCommand) (first second : List ℕ) (inputs : Inputs)
    → inputs_by (table_for (messages_mode command)) first second ≡ Ok inputs → Dealt command inputs
dealt_of laws command first second inputs h =
    let read = inputs_read (table_for (messages_mode command)) first second inputs h in
    let is = mode_read (messages_mode command) first inputs.table read.table_is in
    let valid = (laws.reads_table first inputs.table (table_read {R = ToolRefusal} first inputs.table is.0)).1 in
    let fits : IsOk (items_fit inputs.table inputs.items) = subst IsOk (sym (items_read {R = ToolRefusal} inputs.table second inputs.items read.items_are).fits) refl in
    record { valid = valid; mode = is.1; dealt = laws.give_hands inputs.table inputs.items valid fits }

-- the recording of these
abbrev recorded : ℕ → List Hold → List Entry → Recording
recorded horizon holds list = record { horizon = horizon; holds = holds; list = list }

-- the one list of inputs
record OneList (inputs : Inputs) (horizon : ℕ) : Type 0 where
  list : List Entry
  lawful : IsLawful (quiet_of inputs.table) (stations_of inputs.table (hands_in inputs)) horizon list
  only : (other : List Entry) → IsLawful (quiet_of inputs.table) (stations_of inputs.table (hands_in inputs)) horizon other → other ≡ list

list_of : TextLaws → (command : MessagesCommand) (inputs : Inputs) (horizon : ℕ) → Dealt command inputs → OneList inputs horizon
list_of laws command inputs horizon d =
    let one = laws.one_list inputs.table (hands_in inputs) horizon d.valid d.dealt in
    record { list = one.0; lawful = one.1; only = one.2 }

recording_is : (inputs : Inputs) (horizon : ℕ) (one : OneList inputs horizon) (recording : Recording) → IsObserved inputs.table (hands_in inputs) horizon recording
    → recording ≡ record { horizon = horizon; holds = hand_holds (hands_in inputs); list = one.list }
recording_is inputs horizon one recording h =
    ap (λ (n : ℕ). recorded n recording.holds recording.list) h.horizon ∙ ap (λ (l : List Hold). recorded horizon l recording.list) h.holds
    ∙ ap (recorded horizon (hand_holds (hands_in inputs))) (one.only recording.list h.lawful)

ran_is : (inputs : Inputs) (recording : Recording) → IsRunRecording inputs.table (hands_in inputs) recording
    → recording ≡ record { horizon = closed_end inputs.table (hands_in inputs); holds = hand_holds (hands_in inputs); list = closed inputs.table (hands_in inputs) }
ran_is inputs recording h =
    ap (λ (n : ℕ). recorded n recording.holds recording.list) h.horizon
    ∙ ap (λ (l : List Hold). recorded (closed_end inputs.table (hands_in inputs)) l recording.list) h.holds
    ∙ ap (recorded (closed_end inputs.table (hands_in inputs)) (hand_holds (hands_in inputs))) h.run.closed

dropped_is : (inputs : Inputs) (recording : Recording) → IsDropRecording inputs.table (hands_in inputs) recording
    → recording ≡ record { horizon = drop_end inputs.table (hands_in inputs); holds = hand_holds (hands_in inputs); list = dropout inputs.table (hands_in inputs) }
dropped_is inputs recording h =
    ap (λ (n : ℕ). recorded n recording.holds recording.list) h.horizon
    ∙ ap (λ (l : List Hold). recorded (drop_end inputs.table (hands_in inputs)) l recording.list) h.holds
    ∙ ap (recorded (drop_end inputs.table (hands_in inputs)) (hand_holds (hands_in inputs))) h.run.dropout

messages_once : TextLaws → (command : MessagesCommand) (inputs : Inputs) → Dealt command inputs → (text other : List ℕ) → IsInputsText command inputs text
    → IsInputsText command inputs other → other ≡ text
messages_once laws (Observe horizon) inputs d text other h k =
    let one = list_of laws (Observe horizon) inputs horizon d in
    k.text_is ∙ ap trace_text (recording_is inputs horizon one k.recording k.observed ∙ sym (recording_is inputs horizon one h.recording h.observed)) ∙ sym h.text_is
messages_once laws Run inputs d text other h k =
    k.text_is ∙ ap (run_text inputs.table) (ran_is inputs k.recording k.ran ∙ sym (ran_is inputs h.recording h.ran)) ∙ sym h.text_is
messages_once laws Drop inputs d text other h k =
    k.text_is ∙ ap (run_text inputs.table) (dropped_is inputs k.recording k.ran ∙ sym (dropped_is inputs h.recording h.ran)) ∙ sym h.text_is
messages_once laws Schedule inputs d text other h k = k ∙ sym h

-- ---- a table and a cable
record CableDealt (inputs : CableInputs) : Type 0 where
  valid : IsTrue (is_valid inputs.table)
  dealt : IsTrue (are_hands inputs.table.senders (cable_hands inputs))

cable_dealt : TextLaws → (first second : List ℕ) (inputs : CableInputs) → cable_due first second ≡ Ok inputs → CableDealt inputs
cable_dealt laws first second inputs h =
    let read = both_read first second inputs h in
    let valid = (laws.reads_table first inputs.table (table_read {R = ToolRefusal} first inputs.table read.table_is)).1 in
    let fits : IsOk (items_fit inputs.table inputs.items) = subst IsOk (sym read.cable_is.fits) refl in
    record { valid = valid; dealt = laws.give_hands inputs.table inputs.items valid fits }

on_cable_is : (horizon : ℕ) (inputs : CableInputs) (list : List Entry) (recording : Recording)
    → ((other : List Entry) → IsLawfulOnCable (quiet_of inputs.table) (delays_on inputs.cable) (wakes_on inputs.cable) (stations_of inputs.table (cable_hands inputs)) horizon other → other ≡ list)
    → IsOnCable inputs.table inputs.cable (cable_hands inputs) horizon recording → recording ≡ recorded horizon (hand_holds (cable_hands inputs)) list
on_cable_is horizon inputs list recording only h =
    ap (λ (n : ℕ). recorded n recording.holds recording.list) h.horizon ∙ ap (λ (l : List Hold). recorded horizon l recording.list) h.holds
    ∙ ap (recorded horizon (hand_holds (cable_hands inputs))) (only recording.list h.lawful)

cable_once : TextLaws → (horizon : ℕ) (inputs : CableInputs) → CableDealt inputs → (text other : List ℕ) → IsCableAnswerText horizon inputs text → IsCableAnswerText horizon inputs other → other ≡ text
cable_once laws horizon inputs d text other h k =
    let one = laws.one_cable inputs.table (cable_hands inputs) (delays_on inputs.cable) (wakes_on inputs.cable) horizon d.valid d.dealt in
    k.text_is
    ∙ ap (on_cable_text inputs.table inputs.cable) (on_cable_is horizon inputs one.0 k.recording one.2 k.observed ∙ sym (on_cable_is horizon inputs one.0 h.recording one.2 h.observed))
    ∙ sym h.text_is

cable_has : TextLaws → (horizon : ℕ) (inputs : CableInputs) → CableDealt inputs → (text : List ℕ) × IsCableAnswerText horizon inputs text
cable_has laws horizon inputs d =
    let one = laws.one_cable inputs.table (cable_hands inputs) (delays_on inputs.cable) (wakes_on inputs.cable) horizon d.valid d.dealt in
    let recording : Recording = recorded horizon (hand_holds (cable_hands inputs)) one.0 in
    (on_cable_text inputs.table inputs.cable recording, record { recording = recording; observed = record { horizon = refl; holds = refl; lawful = one.1 }; text_is = refl })

-- ---- the forms
same_value : {Y : Type 0} (due : Result Y Outcome) (x y : Y) → due ≡ Ok x → due ≡ Ok y → y ≡ x
same_value due x y h k = cc

form_once : TextLaws → (form : Form) (first second text other : List ℕ) → (command_of form).IsText first second text → (command_of form).IsText first second other → other ≡ text
form_once laws (OnTable command) first second text other h k =
    k.3 ∙ ap (table_answer_text command) (same_value (table_for (table_mode command) first) h.0 k.0 h.1 k.1) ∙ sym h.3
form_once laws (OnMessages command) first second text other h k =
    messages_once laws command h.0 (dealt_of laws command first second h.0 h.1) text other h.3
    (subst (λ inputs. IsInputsText command inputs other) (same_value (inputs_by (table_for (messages_mode command)) first second) h.0 k.0 h.1 k.1) k.3)
form_once laws (OnTrace command) first second text other h k =
    k.3 ∙ ap (λ (traced : Traced). trace_answer_text command traced.table traced.trace) (same_value (traced_due first second) h.0 k.0 h.1 k.1) ∙ sym h.3
form_once laws Unwave first second text other h k =
    k.3 ∙ ap (λ (traced : Traced). trace_text traced.trace) (same_value (unwave_due first second) h.0 k.0 h.1 k.1) ∙ sym h.3
form_once laws (Drill number) first second text other h k = k ∙ sym h
form_once laws (OnItself about) first second text other h k = k ∙ sym h
form_once laws Explain first second text other h k = k.3 ∙ ap explanation (same_value (text_due 1 first) h.0 k.0 h.1 k.1) ∙ sym h.3
form_once laws ExplainBeside first second text other h k = k.3 ∙ ap beside_told (same_value (beside_due first second) h.0 k.0 h.1 k.1) ∙ sym h.3
form_once laws Facts first second text other h k = k.3 ∙ ap facts_text (same_value (text_due 1 first) h.0 k.0 h.1 k.1) ∙ sym h.3
form_once laws (Cable horizon) first second text other h k =
    cable_once laws horizon h.0 (cable_dealt laws first second h.0 h.1) text other h.3
    (subst (λ inputs. IsCableAnswerText horizon inputs other) (same_value (cable_due first second) h.0 k.0 h.1 k.1) k.3)

once_for : TextLaws → (form : Option Form) (first second text other : List ℕ) → IsTextFor form first second text → IsTextFor form first second other → other ≡ text
once_for laws None first second text other h k = absurd h
once_for laws (Some form) first second text other h k = form_once laws form first second text other h k

pub one_text : TextLaws → OneCommandText
one_text laws words first second text other h k = once_for laws (form_of words) first second text other h k

-- ---- a text, where there is an answer
-- a form has a text, where it is answered
text_with : {Y : Type 0} (answer : Y → Outcome) (IsIt : Y → List ℕ → Type 0) (due : Result Y Outcome)
    → ((o : Outcome) → due ≡ Err o → is_answer (kind_of o) ≡ false)
    → ((y : Y) → due ≡ Ok y → is_answer (kind_of (answer y)) ≡ true → (text : List ℕ) × IsIt y text)
    → is_written (outcome_with answer due) ≡ true → (text : List ℕ) × IsTextOf answer IsIt due text
text_with answer IsIt (Ok y) never make h = (let made = make y refl h in (made.0, (y, refl, h, made.1)))
text_with answer IsIt (Err o) never make h = absurd (let k = never o refl in cc)

run_has : TextLaws → (inputs : Inputs) → Dealt Run inputs → (r : Result (Unit {0}) Outcome) → can_run inputs.table (hands_in inputs) ≡ r
    → is_answer (kind_of (outcome_with done_with r)) ≡ true → (text : List ℕ) × IsInputsText Run inputs text
run_has laws inputs d (Err o) e k = absurd (let n = run_unwritten inputs.table (hands_in inputs) o e in cc)
run_has laws inputs d (Ok u) e k =
    let can = run_ok inputs.table (hands_in inputs) u e in
    let even : IsTrue (are_even inputs.table (hands_in inputs)) = (laws.even_agree inputs.table (hands_in inputs) d.valid d.dealt).0 (ap is_some can.even) in
    let recording : Recording = record { horizon = closed_end inputs.table (hands_in inputs); holds = hand_holds (hands_in inputs); list = closed inputs.table (hands_in inputs) } in (
      run_text inputs.table recording,
      record { recording = recording; ran = record { horizon = refl; holds = refl; run = laws.runs inputs.table (hands_in inputs) d.valid can.accepted even }; text_is = refl },
    )

drop_has : TextLaws → (inputs : Inputs) → Dealt Drop inputs → (r : Result (Unit {0}) Outcome) → can_drop inputs.table (hands_in inputs) ≡ r
    → is_answer (kind_of (outcome_with done_with r)) ≡ true → (text : List ℕ) × IsInputsText Drop inputs text
drop_has laws inputs d (Err o) e k = absurd (let n = drop_unwritten inputs.table (hands_in inputs) o e in cc)
drop_has laws inputs d (Ok u) e k =
    let can = drop_ok inputs.table (hands_in inputs) u e in
    let recording : Recording = record { horizon = drop_end inputs.table (hands_in inputs); holds = hand_holds (hands_in inputs); list = dropout inputs.table (hands_in inputs) } in (
      run_text inputs.table recording,
      record { recording = recording; ran = record { horizon = refl; holds = refl; run = laws.drops inputs.table (hands_in inputs) d.valid d.mode d.dealt can.long }; text_is = refl },
    )

messages_has : TextLaws → (command : MessagesCommand) (inputs : Inputs) → Dealt command inputs → is_answer (kind_of (inputs_answer command inputs)) ≡ true
    → (text : List ℕ) × IsInputsText command inputs text
messages_has laws (Observe horizon) inputs d h =
    let one = list_of laws (Observe horizon) inputs horizon d in
    let recording : Recording = record { horizon = horizon; holds = hand_holds (hands_in inputs); list = one.list } in
    (trace_text recording, record { recording = recording; observed = record { horizon = refl; holds = refl; lawful = one.lawful }; text_is = refl })
messages_has laws Run inputs d h = run_has laws inputs d (can_run inputs.table (hands_in inputs)) refl h
messages_has laws Drop inputs d h = drop_has laws inputs d (can_drop inputs.table (hands_in inputs)) refl h
messages_has laws Schedule inputs d h = (trace_text (scheduled inputs.table (hands_in inputs)), refl)

inputs_unwritten : (command : MessagesCommand) (first second : List ℕ) (o : Outcome) → inputs_by (table_for (messages_mode command)) first second ≡ Err o
    → is_answer (kind_of o) ≡ false
inputs_unwritten command first second o h = elim (inputs_stop (table_for (messages_mode command)) first second o h) [
  | inl e ↦ mode_unwritten (messages_mode command) first o e
  | inr w ↦ stop_unwritten 2 (kind_of o) (items_stop w.0 second o w.2)
]

traced_unwritten : (made : Table → List ℕ → Result Recording Outcome) → ((table : Table) (text : List ℕ) (o : Outcome) → made table text ≡ Err o → StopsAt 2 (kind_of o))
    → (first second : List ℕ) (o : Outcome) → traced_by made first second ≡ Err o → is_answer (kind_of o) ≡ false
traced_unwritten made stops first second o h = elim (traced_stop made first second o h) [
  | inl e ↦ stop_unwritten 1 (kind_of o) (table_stops first o e)
  | inr w ↦ stop_unwritten 2 (kind_of o) (stops w.0 second o w.2)
]

form_has : TextLaws → (form : Form) (first second : List ℕ) → is_written ((command_of form).due first second) ≡ true → (text : List ℕ) × (command_of form).IsText first second text
form_has laws (OnTable command) first second h =
    text_with (table_answer command) (IsTableAnswerText command) (table_for (table_mode command) first) (λ o e. mode_unwritten (table_mode command) first o e)
    (λ table e k. (table_answer_text command table, refl)) h
form_has laws (OnMessages command) first second h =
    text_with (inputs_answer command) (IsInputsText command) (inputs_by (table_for (messages_mode command)) first second)
    (λ o e. inputs_unwritten command first second o e) (λ inputs e k. messages_has laws command inputs (dealt_of laws command first second inputs e) k) h
form_has laws (OnTrace command) first second h =
    text_with (traced_answer command) (IsTracedText command) (traced_due first second)
    (λ o e. traced_unwritten any_trace (λ table text o e. trace_stops text o e) first second o e)
    (λ traced e k. (trace_answer_text command traced.table traced.trace, refl)) h
form_has laws Unwave first second h =
    text_with unwave_answer IsUnwavedText (unwave_due first second) (λ o e. traced_unwritten wave_trace_due wave_stops first second o e)
    (λ traced e k. (trace_text traced.trace, refl)) h
form_has laws (Drill number) first second h = (drill_line number, refl)
form_has laws (OnItself about) first second h = (itself_text about, refl)
form_has laws Explain first second h =
    text_with explain_answer IsExplanation (text_due 1 first) (λ o e. size_unwritten first o e) (λ text e k. (explanation text, refl)) h
form_has laws ExplainBeside first second h =
    text_with beside_answer IsToldBeside (beside_due first second) (λ o e. beside_unwritten first second o e) (λ texts e k. (beside_told texts, refl)) h
form_has laws Facts first second h =
    text_with explain_answer AreFacts (text_due 1 first) (λ o e. size_unwritten first o e) (λ text e k. (facts_text text, refl)) h
form_has laws (Cable horizon) first second h =
    text_with cable_answer (IsCableAnswerText horizon) (cable_due first second) (λ o e. cable_unwritten first second o e)
    (λ inputs e k. cable_has laws horizon inputs (cable_dealt laws first second inputs e)) h

has_for : TextLaws → (form : Option Form) (first second : List ℕ) → is_written (outcome_for form first second) ≡ true → (text : List ℕ) × IsTextFor form first second text
has_for laws None first second h = absurd cc
has_for laws (Some form) first second h = form_has laws form first second h

pub answers_have_texts : TextLaws → AnswersHaveTexts
answers_have_texts laws words first second h = has_for laws (form_of words) first second h
