use Rattle.std.proofs.Common.{sym, subst}
use Rattle.bus_outer.specs.Sinks.{WritesText}
use Rattle.bus_explain.specs.Beyond.{drifting_in}
use Rattle.bus_explain.proofs.beyond.write_drift.Goals as goal

pub returns-in-Aperiodic : goal.returns-in-Aperiodic
returns-in-Aperiodic g c =
    subst (λ mode. WritesText g.K.Sink.held g.K.Sink.faults c.args.out.now c.write_level.new.out c.write_level.result (drifting_in mode c.args.table.now))
    (sym c.in-Aperiodic.is) c.write_level.ensures
