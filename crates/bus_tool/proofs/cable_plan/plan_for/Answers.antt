use Rattle.std.proofs.Common.{ap, arith, ◌∙◌}
use Rattle.bus_command.specs.Acts.{written}
use Rattle.bus_command.specs.Readers.{entire, one_source}
use Rattle.bus_command.proofs.DoLaws.{answered, roomless}
use Rattle.bus_tool.specs.Due.{cable_plan_of, cable_plan_outcome}
use Rattle.bus_tool.specs.Forms.{PlanFor}
use Rattle.bus_tool.specs.PlanTexts.{cable_plan_text}
use Rattle.bus_tool.proofs.AnswerLaws.{written_cable_plan, table_late}
use Rattle.bus_tool.proofs.cable_plan.plan_for.Goals as goal

pub returns-in-Ok : goal.returns-in-Ok
returns-in-Ok g c =
    answered (one_source entire) _ _ g.K.Sink c.args.out.now c.write_cable_plan.new.sink (cable_plan_text c.in-Ok.answer) c.write_cable_plan.result
    c.after_writing.result (written_cable_plan (cable_plan_of c.args.delay c.args.table.now)) (ap cable_plan_text c.in-Ok.ensures)
    c.write_cable_plan.ensures
    (c.after_writing.ensures ∙ ap (written c.write_cable_plan.result) (c.cable_plan_outcome.ensures ∙ ap cable_plan_outcome c.in-Ok.ensures))

pub returns-in-Err : goal.returns-in-Err
returns-in-Err g c = roomless (one_source entire) _ _ _ (let late = table_late (PlanFor c.args.delay) c.args.table.now in omega (arith, late))
