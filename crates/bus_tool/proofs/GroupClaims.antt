-- What a call of each group answers whose texts are right.
use Rattle.std.specs.Prelude.{◌≡◌, ℕ, List, [], ◌∷◌, Some, Ok}
use Rattle.std.proofs.Common.{◌∙◌}
use Rattle.bus_strings.specs.Items.{Item}
use Rattle.bus_table.specs.Tables.{Table}
use Rattle.bus_table.specs.Hands.{hands_of}
use Rattle.bus_trace.specs.TraceLaws.{ReadsBack}
use Rattle.bus_trace.specs.Traces.{Recording}
use Rattle.bus_command.specs.Claims.{Answers, NothingFails, TellsTable, IsOfTable, IsOfItems, IsOfTraced}
use Rattle.bus_command.specs.Due.{table_refusal_of, with_items, inputs_by, with_trace, traced_due, any_trace}
use Rattle.bus_command.specs.Kinds.{Answer, kind_of}
use Rattle.bus_command.specs.Outside.{Call}
use Rattle.bus_command.specs.Readers.{Trace, entire, one_source, two_sources}
use Rattle.bus_command.proofs.ClaimLemmas.{claimed, does_of, at_one, at_two, stands_told}
use Rattle.bus_command.proofs.LawTypes.{TextReadsAsItsTable, TextReadsAsItsItems}
use Rattle.bus_command.proofs.ReadLemmas.{held_trace, inputs_told, traced_told}
use Rattle.bus_command.proofs.ToldLemmas.{table_told, items_told}
use Rattle.bus_command.specs.Stages.{MayReplace}
use Rattle.bus_tool.specs.Acts.{tool_program, Acts}
use Rattle.bus_tool.specs.inside.Acting.{IsOfMode}
use Rattle.bus_tool.specs.Due.{table_for, refusal_for, table_answer, messages_answer, inputs_answer, trace_answer, traced_answer}
use Rattle.bus_tool.specs.Forms.{OnTable, OnMessages, OnTrace, TableCommand, MessagesCommand, TraceCommand, form_of, form_with, no_options, table_mode, messages_mode}
use Rattle.bus_options.specs.Options.{ArePlain}
use Rattle.bus_tool.proofs.FormLemmas.{of_plain, plain_with}
use Rattle.bus_tool.specs.Refusals.{Outcome, ToolRefusal, ends_of, status_of}
use Rattle.bus_tool.specs.Texts.{table_answer_text, IsTableAnswerText, IsMessagesAnswerText, IsInputsText, trace_answer_text, IsTracedText}
use Rattle.bus_tool.proofs.AnswerLaws.{table_answered}
use Rattle.bus_tool.proofs.ModeLemmas.{told_for}

-- the laws by which texts read as what they stand for
pub record ReadLaws : Type 0 where
  pub table_again : TextReadsAsItsTable
  pub items_again : TextReadsAsItsItems
  pub trace_back : ReadsBack

-- a command on a table, whose words are any
pub table_answers : ReadLaws → (command : TableCommand) (call : Call) (outcome : Outcome) (table : Table) (IsText : List ℕ → Type 0)
    → form_of call.words ≡ Some (OnTable command) → IsOfMode (table_mode command) table
    → ((text : List ℕ) → text ≡ table_answer_text command table → IsText text) → Acts call outcome → TellsTable table call.before.sources.first
    → NothingFails (one_source entire) call.before call.after → Answers (status_of (table_answer command table)) IsText call (status_of outcome)
table_answers laws command call outcome table IsText words mode shows acts told undisturbed =
    let first = told.text in
    let due : table_for (table_mode command) first ≡ Ok table =
    told_for (table_mode command) table first mode (table_told {R = ToolRefusal} laws.table_again table call.before.sources.first told) in
    claimed ends_of (table_answer command) (IsTableAnswerText command) (one_source entire) (refusal_for (table_mode command)) (λ a b. table_for (table_mode command) a)
    first [] table IsText call outcome (at_one entire call.before.sources first told.told) due (table_answered command table) shows
    (does_of tool_program call outcome (OnTable command) words acts) undisturbed

-- a command on a table
pub table_comes : ReadLaws → (command : TableCommand) (word : List ℕ) (call : Call) (outcome : Outcome) (table : Table) (IsText : List ℕ → Type 0)
    → ((path : List ℕ) → form_with (word ∷ path ∷ []) no_options ≡ Some (OnTable command)) → IsOfMode (table_mode command) table
    → ((text : List ℕ) → text ≡ table_answer_text command table → IsText text) → Acts call outcome → IsOfTable word table call
    → Answers (status_of (table_answer command table)) IsText call (status_of outcome)
table_comes laws command word call outcome table IsText words mode shows acts h =
    table_answers laws command call outcome table IsText (of_plain word h.form.path [] call.words h.form.form h.form.plain ∙ words h.form.path) mode shows acts h.table_told h.undisturbed

-- a command on a table and messages
pub messages_comes : ReadLaws → (command : MessagesCommand) (word : List ℕ) (further : List (List ℕ)) (call : Call) (outcome : Outcome) (table : Table)
    (items : List Item) (IsText : List ℕ → Type 0)
    → ArePlain further → ((a b : List ℕ) → form_with (word ∷ a ∷ b ∷ further) no_options ≡ Some (OnMessages command)) → IsOfMode (messages_mode command) table
    → kind_of (messages_answer command table (hands_of table items)) ≡ Answer
    → ((text : List ℕ) → IsMessagesAnswerText command table (hands_of table items) text → IsText text) → Acts call outcome → IsOfItems word further table items call
    → Answers (status_of (messages_answer command table (hands_of table items))) IsText call (status_of outcome)
messages_comes laws command word further call outcome table items IsText plain words mode answer_is shows acts h =
    let first = h.table_told.text in
    let second = h.items_told.text in
    let before = call.before.sources in
    let due : inputs_by (table_for (messages_mode command)) first second ≡ Ok (with_items table items) =
    inputs_told (table_for (messages_mode command)) table items first second
    (told_for (messages_mode command) table first mode (table_told {R = ToolRefusal} laws.table_again table before.first h.table_told))
    (items_told {R = ToolRefusal} laws.items_again table items before.second h.items_told) in
    claimed ends_of (inputs_answer command) (IsInputsText command) (two_sources entire entire) (refusal_for (messages_mode command))
    (inputs_by (table_for (messages_mode command))) first second (with_items table items) IsText call outcome
    (at_two entire entire before first second h.table_told.told h.items_told.told) due answer_is shows
    (does_of tool_program call outcome (OnMessages command)
    (of_plain word h.form.first (h.form.second ∷ further) call.words h.form.form (plain_with word h.form.first h.form.second further h.form.plain plain)
    ∙ words h.form.first h.form.second) acts) h.undisturbed

-- a command on a table and a trace, whose words are any
pub both_told : ReadLaws → (word : List ℕ) (further : List (List ℕ)) (call : Call) (table : Table) (trace : Recording)
    (h : IsOfTraced word further table trace call) → traced_due {R = ToolRefusal} h.table_told.text h.trace_told.stream ≡ Ok (with_trace table trace)
both_told laws word further call table trace h =
    traced_told {R = ToolRefusal} any_trace table trace h.table_told.text h.trace_told.stream
    (table_told {R = ToolRefusal} laws.table_again table call.before.sources.first h.table_told)
    (held_trace {R = ToolRefusal} laws.trace_back h.trace_told.stream trace h.trace_told.stands)

pub trace_answers : ReadLaws → (command : TraceCommand) (word : List ℕ) (further : List (List ℕ)) (call : Call) (outcome : Outcome) (table : Table)
    (trace : Recording) → form_of call.words ≡ Some (OnTrace command) → kind_of (trace_answer command table trace) ≡ Answer
    → Acts call outcome → IsOfTraced word further table trace call
    → Answers (status_of (trace_answer command table trace)) (λ text. text ≡ trace_answer_text command table trace) call (status_of outcome)
trace_answers laws command word further call outcome table trace words answer_is acts h =
    claimed ends_of (traced_answer command) (IsTracedText command) (two_sources entire Trace) table_refusal_of traced_due h.table_told.text
    h.trace_told.stream (with_trace table trace) (λ text. text ≡ trace_answer_text command table trace) call outcome
    (at_two entire Trace call.before.sources h.table_told.text h.trace_told.stream h.table_told.told h.trace_told.told)
    (both_told laws word further call table trace h) answer_is (λ text is. is)
    (does_of tool_program call outcome (OnTrace command) words acts) h.undisturbed

-- a command on a table and a trace
pub trace_comes : ReadLaws → (command : TraceCommand) (word : List ℕ) (call : Call) (outcome : Outcome) (table : Table) (trace : Recording)
    → ((a b : List ℕ) → form_with (word ∷ a ∷ b ∷ []) no_options ≡ Some (OnTrace command)) → kind_of (trace_answer command table trace) ≡ Answer
    → Acts call outcome → IsOfTraced word [] table trace call
    → Answers (status_of (trace_answer command table trace)) (λ text. text ≡ trace_answer_text command table trace) call (status_of outcome)
trace_comes laws command word call outcome table trace words answer_is acts h =
    trace_answers laws command word [] call outcome table trace (of_plain word h.form.first (h.form.second ∷ []) call.words h.form.form h.form.plain ∙ words h.form.first h.form.second) answer_is acts h

-- what stands for its answer
pub trace_stands : ReadLaws → (command : TraceCommand) (word : List ℕ) (call : Call) (outcome : Outcome) (table : Table) (trace : Recording)
    → ((a b : List ℕ) → form_with (word ∷ a ∷ b ∷ []) no_options ≡ Some (OnTrace command)) → Acts call outcome → IsOfTraced word [] table trace call
    → MayReplace (trace_answer command table trace) outcome
trace_stands laws command word call outcome table trace words acts h =
    stands_told (traced_answer command) (two_sources entire Trace) traced_due h.table_told.text h.trace_told.stream (with_trace table trace)
    call.before.sources outcome (at_two entire Trace call.before.sources h.table_told.text h.trace_told.stream h.table_told.told h.trace_told.told)
    (both_told laws word [] call table trace h)
    (does_of tool_program call outcome (OnTrace command) (of_plain word h.form.first (h.form.second ∷ []) call.words h.form.form h.form.plain ∙ words h.form.first h.form.second) acts).due
