use Rattle.std.proofs.Common.{arith, refl}
use Rattle.bus_command.proofs.DoLaws.{stopped, ended, answered}
use Rattle.bus_command.specs.Readers.{entire, two_sources}
use Rattle.bus_command.specs.Steps.{Same}
use Rattle.bus_command.specs.Due.{table_refusal_of}
use Rattle.bus_command.specs.declared.outcome.Outcome.TheVariants.{Done}
use Rattle.bus_tool.specs.Due.{unwave_answer, unwave_due}
use Rattle.bus_tool.specs.Forms.{entire_wave}
use Rattle.bus_tool.specs.Texts.{IsUnwavedText}
use Rattle.bus_tool.proofs.GroupLemmas.{unwave_agrees}
use Rattle.bus_tool.proofs.on_wave.unwave.Goals as goal

pub returns-in-Ok : goal.returns-in-Ok
returns-in-Ok g c =
    ended Same unwave_answer IsUnwavedText (two_sources entire entire_wave) table_refusal_of unwave_due _ _ _ _ c.in-Ok.traced Done
    (IsUnwavedText c.in-Ok.traced) c.after_writing.result (unwave_agrees c.in-Ok.traced) c.in-Ok.ensures
    (answered (two_sources entire entire_wave) Done (IsUnwavedText c.in-Ok.traced) g.K.Sink c.args.out.now c.write_trace.new.sink _ c.write_trace.result
    c.after_writing.result refl refl c.write_trace.ensures c.after_writing.ensures)

pub returns-in-Err : goal.returns-in-Err
returns-in-Err g c =
    stopped Same unwave_answer IsUnwavedText (two_sources entire entire_wave) table_refusal_of unwave_due _ _ _ c.in-Err.outcome (λ traced. omega arith)
    c.in-Err.ensures
