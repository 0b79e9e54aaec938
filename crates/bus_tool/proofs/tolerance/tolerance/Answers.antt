use Rattle.std.proofs.Common.{ap, ◌∙◌}
use Rattle.bus_command.specs.Acts.{written}
use Rattle.bus_command.specs.Readers.{one_source, entire}
use Rattle.bus_command.proofs.DoLaws.{answered}
use Rattle.bus_regime.specs.Verdicts.{verdict_of}
use Rattle.bus_tool.specs.Due.{verdict_outcome}
use Rattle.bus_tool.specs.Tolerances.{tolerance_text}
use Rattle.bus_tool.proofs.AnswerLaws.{written_verdict}
use Rattle.bus_tool.proofs.tolerance.tolerance.Goals as goal

pub returns : goal.returns
returns g c =
    answered (one_source entire) _ _ g.K.Sink c.args.out.now c.write_tolerance.new.sink (tolerance_text c.verdict-verdict.result c.args.table.now)
    c.write_tolerance.result c.after_writing.result (written_verdict (verdict_of c.args.table.now))
    (ap (λ v. tolerance_text v c.args.table.now) c.verdict-verdict.ensures) c.write_tolerance.ensures
    (c.after_writing.ensures ∙ ap (written c.write_tolerance.result) (c.verdict_outcome.ensures ∙ ap verdict_outcome c.verdict-verdict.ensures))
