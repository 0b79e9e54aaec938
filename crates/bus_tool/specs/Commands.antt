-- What each command is: the sources that it names, what is due of its texts, what it writes of them, and the causes of its refusals.
use Rattle.std.specs.Prelude.{◌≡◌, ℕ, true, false, List, Option, Some, None}
use Rattle.bus_command.specs.declared.outcome.Outcome.TheVariants.{Usage}
use Rattle.bus_command.specs.Commands.{Command, answering, telling}
use Rattle.bus_command.specs.Due.{text_due, table_refusal_of, inputs_by, traced_due}
use Rattle.bus_command.specs.Readers.{entire, one_source, by_trace, two_sources}
use Rattle.bus_command.specs.Stages.{refusal_in}
use Rattle.bus_tool.specs.Causes.{Cause, IsEndOf, IsNoEnd}
use Rattle.bus_tool.specs.Diagnosing.{beside_answer, beside_due, IsToldBeside}
use Rattle.bus_tool.specs.Drills.{drill_line}
use Rattle.bus_tool.specs.Due.{table_for, refusal_for, unwave_due, cable_due}
use Rattle.bus_tool.specs.Due.{table_answer, inputs_answer, traced_answer, unwave_answer, explain_answer, cable_answer}
use Rattle.bus_tool.specs.Forms.{Form, OnTable, OnMessages, OnTrace, Unwave, Drill, OnItself, Explain, ExplainBeside, Facts, Cable}
use Rattle.bus_tool.specs.Forms.{TableCommand, MessagesCommand, TraceCommand}
use Rattle.bus_tool.specs.Forms.{form_of, table_mode, messages_mode, entire_wave, entire_beside}
use Rattle.bus_tool.specs.Itself.{itself_text}
use Rattle.bus_tool.specs.Refusals.{Outcome, ToolRefusal}
use Rattle.bus_tool.specs.Texts.{IsTableAnswerText, IsInputsText, IsTracedText, IsUnwavedText, IsExplanation, AreFacts, IsCableAnswerText}

-- A command on a table.
abbrev pub table_command : TableCommand → Command ToolRefusal
table_command command =
    answering (one_source entire) (refusal_for (table_mode command)) (λ first second. table_for (table_mode command) first)
    (table_answer command) (IsTableAnswerText command) (Cause IsNoEnd)

-- A command on a table and messages.
abbrev pub messages_command : MessagesCommand → Command ToolRefusal
messages_command command =
    answering (two_sources entire entire) (refusal_for (messages_mode command)) (inputs_by (table_for (messages_mode command)))
    (inputs_answer command) (IsInputsText command) (Cause (IsEndOf command))

-- A command on a table and a trace.
abbrev pub trace_command : TraceCommand → Command ToolRefusal
trace_command command = answering by_trace table_refusal_of traced_due (traced_answer command) (IsTracedText command) (Cause IsNoEnd)

-- `unwave`.
abbrev pub unwave_command : Command ToolRefusal
unwave_command = answering (two_sources entire entire_wave) table_refusal_of unwave_due unwave_answer IsUnwavedText (Cause IsNoEnd)

-- `explain` and `facts` of one text, of which this is written.
abbrev pub text_command : (List ℕ → List ℕ → Type 0) → Command ToolRefusal
text_command IsIt =
    answering (one_source entire) (λ first. refusal_in (text_due 1 first)) (λ first second. text_due 1 first) explain_answer IsIt
    (Cause IsNoEnd)

-- `explain` of two texts.
abbrev pub beside_command : Command ToolRefusal
beside_command =
    answering (two_sources entire entire_beside) (λ first. refusal_in (text_due 1 first)) beside_due beside_answer IsToldBeside
    (Cause IsNoEnd)

-- `cable` up to this horizon.
abbrev pub cable_command : ℕ → Command ToolRefusal
cable_command horizon =
    answering (two_sources entire entire) table_refusal_of cable_due cable_answer (IsCableAnswerText horizon) (Cause IsNoEnd)

-- The command of each form.
abbrev pub command_of : Form → Command ToolRefusal
command_of (OnTable command) = table_command command
command_of (OnMessages command) = messages_command command
command_of (OnTrace command) = trace_command command
command_of Unwave = unwave_command
command_of (Drill number) = telling true (λ text. text ≡ drill_line number) (Cause IsNoEnd)
command_of (OnItself about) = telling false (λ text. text ≡ itself_text about) (Cause IsNoEnd)
command_of Explain = text_command IsExplanation
command_of ExplainBeside = beside_command
command_of Facts = text_command AreFacts
command_of (Cable horizon) = cable_command horizon

-- ---- by the words
-- The outcome where the words ask for a form, or for none.
abbrev pub outcome_for : Option Form → List ℕ → List ℕ → Outcome
outcome_for None first second = Usage
outcome_for (Some form) first second = (command_of form).due first second

-- The outcome that is due.
abbrev pub due : List (List ℕ) → List ℕ → List ℕ → Outcome
due words first second = outcome_for (form_of words) first second

-- What is written where the words ask for a form, or for none.
abbrev pub IsTextFor : Option Form → List ℕ → List ℕ → List ℕ → Type 0
IsTextFor None first second text = ⊥
IsTextFor (Some form) first second text = (command_of form).IsText first second text

-- What a command writes.
abbrev pub IsCommandText : List (List ℕ) → List ℕ → List ℕ → List ℕ → Type 0
IsCommandText words first second text = IsTextFor (form_of words) first second text
