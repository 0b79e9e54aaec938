use Rattle.std.proofs.Common.{◌≡◌, arith, refl, ap, ◌∙◌}
use Rattle.bus_advice.specs.Advices.{advices_of}
use Rattle.bus_command.specs.declared.outcome.Outcome.TheVariants.{Answered}
use Rattle.bus_command.specs.Readers.{entire, one_source}
use Rattle.bus_command.proofs.DoLaws.{answered, roomless}
use Rattle.bus_explain.specs.Refused.{refused_text}
use Rattle.bus_tool.specs.Explanations.{refused_as}
use Rattle.bus_tool.proofs.explain.explain_advised.Goals as goal

pub returns-in-Ok : goal.returns-in-Ok
returns-in-Ok g c =
    answered (one_source entire) Answered (λ text. text ≡ refused_as c.args.verdict.now c.args.table.now) g.K.Sink
    c.args.out.now c.write_refused.new.sink (refused_text c.args.table.now c.args.verdict.now c.args.advices.now c.in-Ok.planned) c.write_refused.result
    c.after_writing.result refl
    (ap (λ a. refused_text c.args.table.now c.args.verdict.now a c.in-Ok.planned) c.requires.all
    ∙ ap (refused_text c.args.table.now c.args.verdict.now (advices_of c.args.table.now)) c.in-Ok.ensures)
    c.write_refused.ensures c.after_writing.ensures

pub returns-in-Err : goal.returns-in-Err
returns-in-Err g c = roomless (one_source entire) Answered _ _ (omega arith)
