use Rattle.std.proofs.Common.{ap, ◌∙◌}
use Rattle.bus_command.specs.Acts.{written}
use Rattle.bus_command.specs.Readers.{Trace, entire, two_sources}
use Rattle.bus_command.proofs.DoLaws.{answered, roomless}
use Rattle.std.proofs.Common.{arith}
use Rattle.bus_audit.specs.Breaches.{answer_of}
use Rattle.bus_audit.specs.Lines.{answer_line}
use Rattle.bus_tool.specs.Due.{audit_outcome}
use Rattle.bus_tool.specs.Forms.{Audit}
use Rattle.bus_tool.proofs.AnswerLaws.{written_audit}
use Rattle.bus_tool.proofs.TraceAnswers.{trace_late}
use Rattle.bus_tool.proofs.audit.audit.Goals as goal

pub returns-in-Ok : goal.returns-in-Ok
returns-in-Ok g c =
    answered (two_sources entire Trace) _ _ g.K.Sink c.args.out.now c.write_answer.new.sink (answer_line c.in-Ok.answer) c.write_answer.result
    c.after_writing.result (written_audit (answer_of c.args.table.now c.args.trace.now)) (ap answer_line c.in-Ok.ensures.value) c.write_answer.ensures
    (c.after_writing.ensures ∙ ap (written c.write_answer.result) (c.audit_outcome.ensures ∙ ap audit_outcome c.in-Ok.ensures.value))

pub returns-in-Err : goal.returns-in-Err
returns-in-Err g c = roomless (two_sources entire Trace) _ _ _ (let late = trace_late Audit c.args.table.now c.args.trace.now in omega (arith, late))
