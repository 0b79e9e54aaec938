use Rattle.std.proofs.Common.{ap, sym, subst, ◌∙◌}
use Rattle.bus_outer.specs.Sinks.{WritesText}
use Rattle.bus_tool.specs.MarginsTexts.{margins_answer, margins_text}
use Rattle.bus_tool.proofs.margins.write_margins.Goals as goal

pub returns-in-Accept : goal.returns-in-Accept
returns-in-Accept g c =
    subst (WritesText g.K.Sink.held g.K.Sink.faults c.args.sink.now c.write_in.new.sink c.write_in.result)
    (ap (λ mode. margins_text mode c.args.bounds c.args.table.now) c.mode.ensures.value
    ∙ sym (ap (λ verdict. margins_answer verdict c.args.bounds c.args.table.now) c.in-Accept.is)) c.write_in.ensures
