use Rattle.std.proofs.Common.{true, arith}
use Rattle.bus_command.specs.declared.outcome.Outcome.TheVariants.{Done}
use Rattle.bus_command.proofs.DoLaws.{roomless}
use Rattle.bus_command.specs.Readers.{by_recorded}
use Rattle.bus_view.proofs.PaintLemmas.{ends_map}
use Rattle.bus_view.proofs.painting.paint_judged.Goals as goal

pub returns-in-Ok : goal.returns-in-Ok
returns-in-Ok g c =
    ends_map Done c.paint_told.result _ _ _ _ (λ text is. record { found = c.in-Ok.judgements; found_is = c.in-Ok.ensures; text_is = is }) c.paint_told.ensures

pub returns-in-Err : goal.returns-in-Err
returns-in-Err g c = roomless (by_recorded true) Done _ _ (omega arith)
