-- What is due of what a group takes, and its text, are those of what was taken.
use Rattle.std.specs.Prelude.{◌≡◌, ◌≤◌, Option, Result}
use Rattle.std.proofs.Common.{refl, sym, ap, ◌∙◌, subst}
use Rattle.bus_table.specs.Tables.{Table}
use Rattle.bus_table.specs.declared.mode.Mode.{Mode}
use Rattle.bus_trace.specs.Traces.{trace_text}
use Rattle.bus_command.specs.declared.inputs.Dealt.{Dealt}
use Rattle.bus_command.specs.declared.inputs.Traced.{Traced}
use Rattle.bus_command.specs.declared.outcome.Outcome.TheVariants.{Done}
use Rattle.bus_command.specs.Due.{Inputs, hands_in, inputs_by}
use Rattle.bus_command.specs.Kinds.{kind_of, stage_of}
use Rattle.bus_command.specs.Outside.{Seen, Sources}
use Rattle.bus_command.specs.Readers.{entire, two_sources}
use Rattle.bus_command.specs.Steps.{Same, Takes, Prepares}
use Rattle.bus_command.specs.inside.Steps.{AreInputs}
use Rattle.bus_command.proofs.DoLaws.{Agrees}
use Rattle.bus_tool.specs.Due.{refusal_for, table_for, table_answer, messages_answer, inputs_answer, trace_answer, traced_answer, unwave_answer}
use Rattle.bus_tool.specs.Forms.{TableCommand, MessagesCommand, TraceCommand}
use Rattle.bus_tool.specs.Refusals.{Outcome}
use Rattle.bus_tool.specs.Texts.{table_answer_text, IsTableAnswerText, IsMessagesAnswerText, IsInputsText, trace_answer_text, IsTracedText, IsUnwavedText}
use Rattle.bus_tool.proofs.AnswerLaws.{messages_late}
use Rattle.bus_tool.proofs.TraceAnswers.{trace_late}

pub table_agrees : (command : TableCommand) (table : Table)
    → Agrees Same (table_answer command) (IsTableAnswerText command) table (table_answer command table) (λ text. text ≡ table_answer_text command table)
table_agrees command table = record {
  answers = λ y same. ap (table_answer command) (sym same);
  texts = λ y same text is. is ∙ ap (table_answer_text command) same;
}

pub inputs_late : (command : MessagesCommand) (inputs : Inputs) → 2 ≤ stage_of (kind_of (inputs_answer command inputs))
inputs_late command inputs = messages_late command inputs.table (hands_in inputs)

pub inputs_agree : (command : MessagesCommand) (dealt : Dealt)
    → Agrees AreInputs (inputs_answer command) (IsInputsText command) dealt (messages_answer command dealt.table dealt.hands.items)
    (IsMessagesAnswerText command dealt.table dealt.hands.items)
inputs_agree command dealt = record {
  answers = λ inputs are. ap (messages_answer command inputs.table) (sym are.hands) ∙ ap (λ t. messages_answer command t dealt.hands.items) (sym are.table);
  texts = λ inputs are text is. subst (λ t. IsMessagesAnswerText command t (hands_in inputs) text) are.table (subst (λ h. IsMessagesAnswerText command dealt.table h text) are.hands is);
}

pub traced_late : (command : TraceCommand) (traced : Traced) → 2 ≤ stage_of (kind_of (traced_answer command traced))
traced_late command traced = trace_late command traced.table traced.trace

pub traced_agree : (command : TraceCommand) (traced : Traced)
    → Agrees Same (traced_answer command) (IsTracedText command) traced (trace_answer command traced.table traced.trace)
    (λ text. text ≡ trace_answer_text command traced.table traced.trace)
traced_agree command traced = record {
  answers = λ y same. ap (traced_answer command) (sym same);
  texts = λ y same text is. is ∙ ap (λ (t : Traced). trace_answer_text command t.table t.trace) same;
}

pub unwave_agrees : (traced : Traced) → Agrees Same unwave_answer IsUnwavedText traced Done (IsUnwavedText traced)
unwave_agrees traced = record { answers = λ y same. refl; texts = λ y same text is. is ∙ ap (λ (t : Traced). trace_text t.trace) same }

-- of the mode that the command needs
pub mode_takes : (mode needed : Option Mode) (old new : Seen) (result : Result Table Outcome) → mode ≡ needed
    → Takes Same 1 entire (table_for mode) old new result → Takes Same 1 entire (table_for needed) old new result
mode_takes mode needed old new result is t = subst (λ m. Takes Same 1 entire (table_for m) old new result) is t

pub mode_prepares : (mode needed : Option Mode) (before after : Sources) (result : Result Dealt Outcome) → mode ≡ needed
    → Prepares AreInputs (two_sources entire entire) (refusal_for mode) (inputs_by (table_for mode)) before after result
    → Prepares AreInputs (two_sources entire entire) (refusal_for needed) (inputs_by (table_for needed)) before after result
mode_prepares mode needed before after result is p =
    subst (λ m. Prepares AreInputs (two_sources entire entire) (refusal_for m) (inputs_by (table_for m)) before after result) is p
