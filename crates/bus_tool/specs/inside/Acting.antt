-- What a command did, told form by form and behind its texts. No public clause cites it.
use Rattle.std.specs.Prelude.{◌≡◌, ℕ, List, Option, Some, None}
use Rattle.bus_outer.specs.declared.sink.Sink.{Ghosts as SinkGhosts}
use Rattle.bus_outer.specs.declared.source.Source.{Ghosts as SourceGhosts}
use Rattle.bus_table.specs.Tables.{Table, Hand}
use Rattle.bus_table.specs.declared.mode.Mode.{Mode}
use Rattle.bus_trace.specs.Traces.{Recording}
use Rattle.bus_command.specs.Acts as command
use Rattle.bus_command.specs.inside.Acting as acting
use Rattle.bus_command.specs.Acts.{Ends}
use Rattle.bus_command.specs.declared.outcome.Outcome.TheVariants.{Done}
use Rattle.bus_command.specs.Outside.{Outside, sink_seen}
use Rattle.bus_command.specs.Readers.{entire, one_source, by_trace, two_sources}
use Rattle.bus_cable.specs.Cables.{Cable}
use Rattle.bus_tool.specs.Due.{table_answer, messages_answer, trace_answer}
use Rattle.bus_tool.specs.Forms.{Form, TableCommand, MessagesCommand, TraceCommand, entire_beside}
use Rattle.bus_tool.specs.Refusals.{Outcome}
use Rattle.bus_tool.specs.Texts.{IsMessagesAnswerText, IsOnCableText, table_answer_text, trace_answer_text}
use Rattle.bus_tool.specs.Acts.{tool_program}

-- What the command of a form did.
abbrev pub DoesForm : Form → Outside → Outside → Outcome → Type 0
DoesForm form before after outcome = command.DoesForm tool_program form before after outcome

-- What the command of a form did whose first source was this before and after, whatever the second is.
abbrev pub DoesFirst : {S K : Type 0} → SourceGhosts S → SinkGhosts K → Form → S → K → S → K → Outcome → Type 0
DoesFirst = acting.DoesFirst tool_program

-- What the command of a form did whose sources were these before and after.
abbrev pub DoesBoth : {S K : Type 0} → SourceGhosts S → SinkGhosts K → Form → S → S → K → S → S → K → Outcome → Type 0
DoesBoth = acting.DoesBoth tool_program

-- A table is of the mode that is needed, if one is.
abbrev pub IsOfMode : Option Mode → Table → Type 0
IsOfMode None table = Unit {0}
IsOfMode (Some needed) table = table.mode ≡ needed

-- What a command did that has taken its table.
abbrev pub EndsOnTable : {K : Type 0} → SinkGhosts K → TableCommand → Table → K → K → Outcome → Type 0
EndsOnTable ghosts command table old new outcome =
    Ends (one_source entire) (table_answer command table) (λ text. text ≡ table_answer_text command table) (sink_seen ghosts old)
    (sink_seen ghosts new) outcome

-- What `explain` did that has read its text, of which this is to be answered and written.
abbrev pub EndsExplaining : {K : Type 0} → SinkGhosts K → Outcome → List ℕ → K → K → Outcome → Type 0
EndsExplaining ghosts answer explained old new outcome =
    Ends (one_source entire) answer (λ text. text ≡ explained) (sink_seen ghosts old) (sink_seen ghosts new) outcome

-- What `explain` of two texts did that has read both, of which this is to be answered and written.
abbrev pub EndsBeside : {K : Type 0} → SinkGhosts K → Outcome → List ℕ → K → K → Outcome → Type 0
EndsBeside ghosts answer told old new outcome =
    Ends (two_sources entire entire_beside) answer (λ text. text ≡ told) (sink_seen ghosts old) (sink_seen ghosts new) outcome

-- What a command did that has taken its table and hands.
abbrev pub EndsOnMessages : {K : Type 0} → SinkGhosts K → MessagesCommand → Table → List Hand → K → K → Outcome → Type 0
EndsOnMessages ghosts command table hands old new outcome =
    Ends (two_sources entire entire) (messages_answer command table hands) (IsMessagesAnswerText command table hands) (sink_seen ghosts old)
    (sink_seen ghosts new) outcome

-- What a command did that has taken its table and trace.
abbrev pub EndsOnTrace : {K : Type 0} → SinkGhosts K → TraceCommand → Table → Recording → K → K → Outcome → Type 0
EndsOnTrace ghosts command table trace old new outcome =
    Ends by_trace (trace_answer command table trace) (λ text. text ≡ trace_answer_text command table trace)
    (sink_seen ghosts old) (sink_seen ghosts new) outcome

-- What a command did that has taken its table, cable and hands.
abbrev pub EndsOnCable : {K : Type 0} → SinkGhosts K → ℕ → Table → Cable → List Hand → K → K → Outcome → Type 0
EndsOnCable ghosts horizon table cable hands old new outcome =
    Ends (two_sources entire entire) Done (IsOnCableText horizon table cable hands) (sink_seen ghosts old) (sink_seen ghosts new) outcome
