use Rattle.std.proofs.Common.{ap, ◌∙◌}
use Rattle.bus_command.specs.Acts.{written}
use Rattle.bus_command.specs.Readers.{one_source, entire}
use Rattle.bus_command.proofs.DoLaws.{answered}
use Rattle.bus_regime.specs.Verdicts.{verdict_of}
use Rattle.bus_tool.specs.Due.{margins_outcome}
use Rattle.bus_tool.specs.MarginsTexts.{margins_answer}
use Rattle.bus_tool.proofs.AnswerLaws.{written_margins}
use Rattle.bus_tool.proofs.margins.margins.Goals as goal

pub returns : goal.returns
returns g c =
    answered (one_source entire) _ _ g.K.Sink c.args.out.now c.write_margins.new.sink
    (margins_answer c.verdict-verdict.result c.args.bounds c.args.table.now) c.write_margins.result c.after_writing.result
    (written_margins (verdict_of c.args.table.now) c.args.bounds c.args.table.now)
    (ap (λ v. margins_answer v c.args.bounds c.args.table.now) c.verdict-verdict.ensures) c.write_margins.ensures
    (c.after_writing.ensures
    ∙ ap (written c.write_margins.result) (c.margins_outcome.ensures
    ∙ ap (λ v. margins_outcome v c.args.bounds c.args.table.now) c.verdict-verdict.ensures))
