use Rattle.std.proofs.Common.{ap, ◌∙◌}
use Rattle.bus_command.specs.Acts.{written}
use Rattle.bus_command.specs.Readers.{entire, one_source}
use Rattle.bus_command.proofs.DoLaws.{answered}
use Rattle.bus_tool.proofs.AnswerLaws.{written_verdict}
use Rattle.bus_regime.specs.Verdicts.{verdict_of}
use Rattle.bus_regime.specs.Lines.{verdict_line}
use Rattle.bus_tool.specs.Due.{verdict_outcome}
use Rattle.bus_tool.proofs.check.check.Goals as goal

pub returns : goal.returns
returns g c =
    answered (one_source entire) _ _ g.K.Sink c.args.out.now c.write_verdict.new.sink (verdict_line c.verdict-verdict.result) c.write_verdict.result
    c.after_writing.result (written_verdict (verdict_of c.args.table.now)) (ap verdict_line c.verdict-verdict.ensures) c.write_verdict.ensures
    (c.after_writing.ensures ∙ ap (written c.write_verdict.result) (c.verdict_outcome.ensures ∙ ap verdict_outcome c.verdict-verdict.ensures))
