use Rattle.std.proofs.Common.{◌≡◌, true, arith, ap, ◌∙◌}
use Rattle.bus_audit.specs.declared.answer.AuditAnswer.{AuditAnswer}
use Rattle.bus_command.specs.declared.outcome.Outcome.TheVariants.{Done}
use Rattle.bus_command.proofs.DoLaws.{roomless}
use Rattle.bus_command.specs.Readers.{by_recorded}
use Rattle.bus_regime.specs.Verdicts.{verdict_of}
use Rattle.bus_shapes.specs.declared.told.Told.TheVariants.{Audit}
use Rattle.bus_view.specs.Due.{painted, window_or_whole}
use Rattle.bus_view.proofs.PaintLemmas.{ends_map}
use Rattle.bus_view.proofs.painting.paint_audited.Goals as goal

pub returns-in-Ok : goal.returns-in-Ok
returns-in-Ok g c =
    let table = c.args.table.now in
    let trace = c.args.trace.now in
    ends_map Done c.paint_told.result _ _ _ _
    (λ text is. is ∙ ap (λ (a : AuditAnswer). painted c.args.picture (window_or_whole c.args.window trace) (verdict_of table) (Audit a) table trace)
    c.in-Ok.ensures.value)
    c.paint_told.ensures

pub returns-in-Err : goal.returns-in-Err
returns-in-Err g c = roomless (by_recorded true) Done _ _ (omega arith)
