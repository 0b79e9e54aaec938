use Rattle.std.proofs.Common.{arith, refl}
use Rattle.bus_command.specs.declared.outcome.Outcome.TheVariants.{Done}
use Rattle.bus_command.proofs.DoLaws.{answered, roomless}
use Rattle.bus_command.specs.Readers.{by_trace}
use Rattle.bus_view.proofs.SaveLemmas.{saved_is}
use Rattle.bus_view.proofs.saving.save.Goals as goal

pub returns-in-Ok : goal.returns-in-Ok
returns-in-Ok g c =
    answered by_trace Done _ g.K.Sink c.args.out.now c.write_save_file-saved.new.sink _ c.write_save_file-saved.result c.after_writing.result refl
    (saved_is c.window_or_whole-window.result _ c.in-Ok.breach c.args.table.now c.args.trace.now c.window_or_whole-window.ensures
    c.in-Ok.ensures.value)
    c.write_save_file-saved.ensures c.after_writing.ensures

pub returns-in-Err : goal.returns-in-Err
returns-in-Err g c = roomless by_trace Done _ _ (omega arith)
