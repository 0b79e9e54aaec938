use Rattle.std.proofs.Common.{ap, ◌∙◌}
use Rattle.bus_command.specs.Acts.{written}
use Rattle.bus_command.specs.Readers.{entire, one_source}
use Rattle.bus_command.proofs.DoLaws.{answered, roomless}
use Rattle.std.proofs.Common.{arith}
use Rattle.bus_regime.specs.Verdicts.{verdict_of}
use Rattle.bus_tool.specs.Due.{verdict_outcome}
use Rattle.bus_tool.specs.Forms.{Report}
use Rattle.bus_tool.proofs.AnswerLaws.{written_verdict, table_late}
use Rattle.bus_tool.proofs.report.report.Goals as goal

pub returns-in-Ok : goal.returns-in-Ok
returns-in-Ok g c =
    answered (one_source entire) _ _ g.K.Sink c.args.out.now c.write_all.new.sink c.as_bytes.result.now c.write_all.result c.after_writing.result
    (written_verdict (verdict_of c.args.table.now)) (c.as_bytes.ensures.value ∙ c.in-Ok.ensures) c.write_all.ensures
    (c.after_writing.ensures ∙ ap (written c.write_all.result) (c.verdict_outcome.ensures ∙ ap verdict_outcome c.verdict.ensures))

pub returns-in-Err : goal.returns-in-Err
returns-in-Err g c = roomless (one_source entire) _ _ _ (let late = table_late Report c.args.table.now in omega (arith, late))
