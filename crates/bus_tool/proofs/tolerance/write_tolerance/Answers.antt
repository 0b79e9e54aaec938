use Rattle.std.proofs.Common.{sym, subst}
use Rattle.bus_outer.specs.Sinks.{WritesText}
use Rattle.bus_tool.specs.Tolerances.{tolerance_text}
use Rattle.bus_tool.proofs.tolerance.write_tolerance.Goals as goal

pub returns-in-Accept : goal.returns-in-Accept
returns-in-Accept g c =
    subst (λ verdict. WritesText g.K.Sink.held g.K.Sink.faults c.args.sink.now c.write_line.new.sink c.write_line.result (tolerance_text verdict c.args.table.now))
    (sym c.in-Accept.is) c.write_line.ensures
