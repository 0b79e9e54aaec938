use Rattle.std.specs.Prelude.{Option, Result, Ok}
use Rattle.std.proofs.Common.{sym, subst}
use Rattle.bus_bounds.specs.Bounds.{Bounds}
use Rattle.bus_outer.specs.Sinks.{WritesText}
use Rattle.bus_outer.specs.declared.sink.WriteFault.{WriteFault as Fault}
use Rattle.bus_outer.proofs.WriteLaws.{writes_nothing}
use Rattle.bus_page.specs.Pages.{asked_text}
use Rattle.bus_page.proofs.sentences.write_asked.Goals as goal

pub returns-in-None : goal.returns-in-None
returns-in-None g c =
    let done : Result (Unit {0}) Fault = Ok tt in
    subst (λ (asked : Option Bounds). WritesText g.K.Sink.held g.K.Sink.faults c.args.sink.now c.args.sink.now done (asked_text asked c.args.table.now))
    (sym c.in-None.is) (writes_nothing g.K.Sink.held g.K.Sink.faults c.args.sink.now tt)
