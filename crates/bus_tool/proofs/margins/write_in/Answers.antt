use Rattle.std.proofs.Common.{sym, subst}
use Rattle.bus_outer.specs.Sinks.{WritesText}
use Rattle.bus_tool.specs.MarginsTexts.{margins_text}
use Rattle.bus_tool.proofs.margins.write_in.Goals as goal

pub returns-in-Aperiodic : goal.returns-in-Aperiodic
returns-in-Aperiodic g c =
    subst (λ mode. WritesText g.K.Sink.held g.K.Sink.faults c.args.sink.now c.write_aperiodic.new.sink c.write_aperiodic.result
    (margins_text mode c.args.bounds c.args.table.now)) (sym c.in-Aperiodic.is) c.write_aperiodic.ensures

pub returns-in-Periodic : goal.returns-in-Periodic
returns-in-Periodic g c =
    subst (λ mode. WritesText g.K.Sink.held g.K.Sink.faults c.args.sink.now c.write_periodic.new.sink c.write_periodic.result
    (margins_text mode c.args.bounds c.args.table.now)) (sym c.in-Periodic.is) c.write_periodic.ensures
