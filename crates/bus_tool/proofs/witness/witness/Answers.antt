use Rattle.std.proofs.Common.{refl, ap}
use Rattle.bus_command.specs.Readers.{entire, one_source}
use Rattle.bus_command.proofs.DoLaws.{answered, roomless}
use Rattle.std.proofs.Common.{arith}
use Rattle.bus_strings.specs.Canonical.{messages_text}
use Rattle.bus_command.specs.declared.outcome.Outcome.TheVariants.{Done}
use Rattle.bus_tool.proofs.witness.witness.Goals as goal

pub returns-in-Ok : goal.returns-in-Ok
returns-in-Ok g c =
    answered (one_source entire) Done _ g.K.Sink c.args.out.now c.write_messages.new.sink _ c.write_messages.result c.after_writing.result refl
    (ap messages_text c.in-Ok.ensures.witness) c.write_messages.ensures.written c.after_writing.ensures

pub returns-in-Err : goal.returns-in-Err
returns-in-Err g c = roomless (one_source entire) Done _ _ (omega arith)
