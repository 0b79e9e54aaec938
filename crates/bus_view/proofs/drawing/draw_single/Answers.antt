use Rattle.std.proofs.Common.{arith, refl}
use Rattle.bus_command.specs.declared.outcome.Outcome.TheVariants.{Done}
use Rattle.bus_command.proofs.DoLaws.{answered, roomless}
use Rattle.bus_command.specs.Readers.{by_trace}
use Rattle.bus_view.proofs.PaintLemmas.{dump_is}
use Rattle.bus_view.proofs.drawing.draw_single.Goals as goal

pub returns-in-Ok : goal.returns-in-Ok
returns-in-Ok g c =
    answered by_trace Done _ g.K.Sink c.args.out.now c.write_dump-drawn.new.sink _ c.write_dump-drawn.result c.after_writing.result refl
    (dump_is c.args.dump c.window_or_whole-window.result _ c.in-Ok.breach c.verdict-verdict.result c.args.table.now c.args.trace.now
    c.window_or_whole-window.ensures c.in-Ok.ensures.value c.verdict-verdict.ensures)
    c.write_dump-drawn.ensures c.after_writing.ensures

pub returns-in-Err : goal.returns-in-Err
returns-in-Err g c = roomless by_trace Done _ _ (omega arith)
