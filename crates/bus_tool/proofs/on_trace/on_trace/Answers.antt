use Rattle.bus_command.proofs.DoLaws.{stopped, ended}
use Rattle.bus_command.specs.Readers.{Trace, entire, two_sources}
use Rattle.bus_command.specs.Steps.{Same}
use Rattle.bus_command.specs.Due.{table_refusal_of, traced_due}
use Rattle.bus_tool.specs.Due.{traced_answer}
use Rattle.bus_tool.specs.Texts.{IsTracedText}
use Rattle.bus_tool.proofs.GroupLemmas.{traced_late, traced_agree}
use Rattle.bus_tool.proofs.on_trace.on_trace.Goals as goal

pub returns-in-Ok : goal.returns-in-Ok
returns-in-Ok g c =
    ended Same (traced_answer c.args.command) (IsTracedText c.args.command) (two_sources entire Trace) table_refusal_of traced_due _ _ _ _
    c.in-Ok.field-0 _ _ c.answer.result (traced_agree c.args.command c.in-Ok.field-0) c.in-Ok.ensures.prepares c.answer.ensures

pub returns-in-Err : goal.returns-in-Err
returns-in-Err g c =
    stopped Same (traced_answer c.args.command) (IsTracedText c.args.command) (two_sources entire Trace) table_refusal_of traced_due _ _ _
    c.in-Err.outcome (traced_late c.args.command) c.in-Err.ensures.prepares
