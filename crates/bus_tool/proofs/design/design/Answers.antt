use Rattle.std.proofs.Common.{[], ap, arith, ◌∙◌}
use Rattle.bus_command.specs.Acts.{written}
use Rattle.bus_command.specs.Readers.{entire, one_source}
use Rattle.bus_command.proofs.DoLaws.{answered, roomless}
use Rattle.bus_made.specs.Answers.{answer_of as design_answer}
use Rattle.bus_made.specs.Texts.{answer_text}
use Rattle.bus_tool.specs.Due.{design_outcome}
use Rattle.bus_tool.specs.Forms.{Design}
use Rattle.bus_tool.proofs.AnswerLaws.{written_design, table_late}
use Rattle.bus_tool.proofs.design.design.Goals as goal

pub returns-in-Ok : goal.returns-in-Ok
returns-in-Ok g c =
    answered (one_source entire) _ _ g.K.Sink c.args.out.now c.write_design.new.sink (answer_text c.in-Ok.answer) c.write_design.result
    c.after_writing.result (written_design (design_answer c.args.bounds c.args.order [] c.args.table.now)) (ap answer_text c.in-Ok.ensures.exact)
    c.write_design.ensures
    (c.after_writing.ensures ∙ ap (written c.write_design.result) (c.design_outcome.ensures ∙ ap design_outcome c.in-Ok.ensures.exact))

pub returns-in-Err : goal.returns-in-Err
returns-in-Err g c = roomless (one_source entire) _ _ _ (let late = table_late (Design c.args.bounds c.args.order) c.args.table.now in omega (arith, late))
