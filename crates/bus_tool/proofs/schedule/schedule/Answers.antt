use Rattle.std.proofs.Common.{refl, sym, ap, ◌∙◌, subst}
use Rattle.bus_command.specs.Readers.{entire, two_sources}
use Rattle.bus_command.proofs.DoLaws.{answered, failed}
use Rattle.bus_command.specs.Acts.{Ends}
use Rattle.bus_command.specs.Due.{outcome_with}
use Rattle.bus_command.specs.Kinds.{kind_of}
use Rattle.bus_command.specs.Outside.{sink_seen}
use Rattle.bus_command.specs.Stages.{GivesStop}
use Rattle.bus_command.specs.declared.outcome.Outcome.TheVariants.{Done}
use Rattle.bus_trace.specs.Traces.{trace_text}
use Rattle.bus_tool.specs.Due.{can_schedule}
use Rattle.bus_tool.specs.Forms.{Schedule}
use Rattle.bus_tool.specs.Texts.{IsMessagesAnswerText, scheduled}
use Rattle.bus_tool.proofs.AnswerLaws.{done_with, done_late}
use Rattle.bus_tool.proofs.schedule.schedule.Goals as goal

pub returns-in-Ok : goal.returns-in-Ok
returns-in-Ok g c =
    let can = ap (can_schedule c.args.table.now) (sym c.deref.ensures.value) ∙ c.in-Ok.ensures.gives.1 in
    subst (λ r. Ends (two_sources entire entire) (outcome_with done_with r) (IsMessagesAnswerText Schedule c.args.table.now c.args.hands.items)
    (sink_seen g.K.Sink c.args.out.now) (sink_seen g.K.Sink c.write_trace.new.sink) c.after_writing.result) (sym can)
    (answered (two_sources entire entire) Done (IsMessagesAnswerText Schedule c.args.table.now c.args.hands.items) g.K.Sink c.args.out.now c.write_trace.new.sink
    (trace_text c.in-Ok.trace) c.write_trace.result c.after_writing.result refl
    (ap trace_text c.in-Ok.ensures.gives.2 ∙ ap (λ hands. trace_text (scheduled c.args.table.now hands)) c.deref.ensures.value) c.write_trace.ensures c.after_writing.ensures)

pub returns : goal.returns
returns g c =
    failed (two_sources entire entire) done_with (can_schedule c.args.table.now c.args.hands.items) (IsMessagesAnswerText Schedule c.args.table.now c.args.hands.items) _
    c.in-Err.outcome done_late c.in-Err.ensures.late
    (subst (λ hands. GivesStop (kind_of c.in-Err.outcome) c.in-Err.outcome (can_schedule c.args.table.now hands)) c.deref.ensures.value c.in-Err.ensures.gives)
