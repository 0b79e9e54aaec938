use Rattle.std.proofs.Common.{sym, subst}
use Rattle.bus_outer.specs.Sinks.{WritesText}
use Rattle.bus_made.specs.Texts.{answer_text}
use Rattle.bus_made.proofs.writing.write_design.Goals as goal

pub returns-in-Made : goal.returns-in-Made
returns-in-Made g c =
    subst (λ answer. WritesText g.K.Sink.held g.K.Sink.faults c.args.sink.now c.write_table.new.sink c.write_table.result (answer_text answer))
    (sym c.in-Made.is) c.write_table.ensures.written
