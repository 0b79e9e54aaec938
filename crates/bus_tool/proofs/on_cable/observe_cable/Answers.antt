use Rattle.std.proofs.Common.{refl}
use Rattle.bus_command.proofs.DoLaws.{answered}
use Rattle.bus_command.specs.Readers.{entire, two_sources}
use Rattle.bus_command.specs.declared.outcome.Outcome.TheVariants.{Done}
use Rattle.bus_tool.specs.Texts.{on_cable_text}
use Rattle.bus_tool.proofs.on_cable.observe_cable.Goals as goal

pub returns-in-Ok : goal.returns-in-Ok
returns-in-Ok g c =
    answered (two_sources entire entire) Done _ g.K.Sink c.args.out.now c.write_on_cable.new.out (on_cable_text c.args.on.table c.args.on.cable c.in-Ok.trace) c.write_on_cable.result
    c.after_writing.result refl (record { recording = c.in-Ok.trace; observed = c.in-Ok.ensures; text_is = refl }) c.write_on_cable.ensures c.after_writing.ensures
