use Rattle.std.proofs.Common.{ap, ◌∙◌}
use Rattle.bus_command.specs.Acts.{written}
use Rattle.bus_command.specs.Readers.{entire, one_source}
use Rattle.bus_command.proofs.DoLaws.{answered, roomless}
use Rattle.std.proofs.Common.{arith}
use Rattle.bus_plan.specs.Answers.{plan_of}
use Rattle.bus_tool.specs.Due.{plan_outcome}
use Rattle.bus_tool.specs.Forms.{Plan}
use Rattle.bus_tool.specs.PlanTexts.{plan_text}
use Rattle.bus_tool.proofs.AnswerLaws.{written_plan, table_late}
use Rattle.bus_tool.proofs.plan.plan.Goals as goal

pub returns-in-Ok : goal.returns-in-Ok
returns-in-Ok g c =
    answered (one_source entire) _ _ g.K.Sink c.args.out.now c.write_plan.new.sink (plan_text c.in-Ok.answer) c.write_plan.result c.after_writing.result
    (written_plan (plan_of c.args.table.now)) (ap plan_text c.in-Ok.ensures.exact) c.write_plan.ensures
    (c.after_writing.ensures ∙ ap (written c.write_plan.result) (c.plan_outcome.ensures ∙ ap plan_outcome c.in-Ok.ensures.exact))

pub returns-in-Err : goal.returns-in-Err
returns-in-Err g c = roomless (one_source entire) _ _ _ (let late = table_late Plan c.args.table.now in omega (arith, late))
