use Rattle.std.proofs.Common.{true, arith, refl}
use Rattle.bus_command.specs.declared.outcome.Outcome.TheVariants.{Done}
use Rattle.bus_command.proofs.DoLaws.{answered, roomless}
use Rattle.bus_command.specs.Readers.{by_recorded}
use Rattle.bus_view.proofs.PaintLemmas.{painted_is}
use Rattle.bus_view.proofs.painting.paint_told.Goals as goal

pub returns : goal.returns
returns g c =
    answered (by_recorded true) Done _ g.K.Sink c.args.out.now c.write_picture-painted.new.out _ c.write_picture-painted.result c.after_writing.result refl
    (painted_is c.args.picture c.window_or_whole-window.result _ c.args.table.now c.args.trace.now c.verdict-verdict.result c.args.told.now
    c.verdict-verdict.ensures c.window_or_whole-window.ensures)
    c.write_picture-painted.ensures c.after_writing.ensures

pub returns-in_default : goal.returns-in_default
returns-in_default g c = roomless (by_recorded true) Done _ _ (omega arith)

pub returns-in_default-sents_of : goal.returns-in_default-sents_of
returns-in_default-sents_of g c = roomless (by_recorded true) Done _ _ (omega arith)
