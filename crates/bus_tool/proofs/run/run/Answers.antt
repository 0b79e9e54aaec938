use Rattle.std.proofs.Common.{refl, sym, subst}
use Rattle.bus_command.specs.Readers.{entire, two_sources}
use Rattle.bus_command.proofs.DoLaws.{answered, failed}
use Rattle.bus_command.specs.Acts.{Ends}
use Rattle.bus_command.specs.Due.{outcome_with}
use Rattle.bus_command.specs.Outside.{sink_seen}
use Rattle.bus_command.specs.declared.outcome.Outcome.TheVariants.{Done}
use Rattle.bus_tool.specs.Due.{can_run}
use Rattle.bus_tool.specs.Forms.{Run}
use Rattle.bus_tool.specs.Texts.{IsMessagesAnswerText, run_text}
use Rattle.bus_tool.proofs.AnswerLaws.{done_with, done_late}
use Rattle.bus_tool.proofs.run.run.Goals as goal

pub write_run-requires-clause-clear : goal.write_run-requires-clause-clear
write_run-requires-clause-clear g c = c.in-Ok.ensures.gives.2.run.clear

pub returns-in-Ok : goal.returns-in-Ok
returns-in-Ok g c =
    subst (λ r. Ends (two_sources entire entire) (outcome_with done_with r) (IsMessagesAnswerText Run c.args.table.now c.args.hands.items)
    (sink_seen g.K.Sink c.args.out.now) (sink_seen g.K.Sink c.write_run.new.out) c.after_writing.result) (sym c.in-Ok.ensures.gives.1)
    (answered (two_sources entire entire) Done (IsMessagesAnswerText Run c.args.table.now c.args.hands.items) g.K.Sink c.args.out.now c.write_run.new.out
    (run_text c.args.table.now c.in-Ok.trace) c.write_run.result c.after_writing.result refl
    (record { recording = c.in-Ok.trace; ran = c.in-Ok.ensures.gives.2; text_is = refl }) c.write_run.ensures c.after_writing.ensures)

pub returns-in-Err : goal.returns-in-Err
returns-in-Err g c =
    failed (two_sources entire entire) done_with (can_run c.args.table.now c.args.hands.items) (IsMessagesAnswerText Run c.args.table.now c.args.hands.items) _
    c.in-Err.outcome done_late c.in-Err.ensures.late c.in-Err.ensures.gives
