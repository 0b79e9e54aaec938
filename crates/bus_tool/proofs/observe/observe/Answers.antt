use Rattle.std.proofs.Common.{refl}
use Rattle.bus_command.specs.Readers.{entire, two_sources}
use Rattle.bus_command.proofs.DoLaws.{answered, roomless}
use Rattle.std.proofs.Common.{arith}
use Rattle.bus_trace.specs.Traces.{trace_text}
use Rattle.bus_command.specs.declared.outcome.Outcome.TheVariants.{Done}
use Rattle.bus_tool.proofs.observe.observe.Goals as goal

pub returns-in-Ok : goal.returns-in-Ok
returns-in-Ok g c =
    answered (two_sources entire entire) Done _ g.K.Sink c.args.out.now c.write_trace.new.sink (trace_text c.in-Ok.trace) c.write_trace.result
    c.after_writing.result refl (record { recording = c.in-Ok.trace; observed = c.in-Ok.ensures; text_is = refl }) c.write_trace.ensures c.after_writing.ensures

pub returns-in-Err : goal.returns-in-Err
returns-in-Err g c = roomless (two_sources entire entire) Done _ _ (omega arith)
