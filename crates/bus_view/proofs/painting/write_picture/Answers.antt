use Rattle.std.proofs.Common.{List, ℕ, subst}
use Rattle.bus_outer.specs.Sinks.{WritesText}
use Rattle.bus_view.proofs.PaintLemmas.{time_line_is, cycles_are}
use Rattle.bus_view.proofs.painting.write_picture.Goals as goal

pub write_time_line-requires-clause-all : goal.write_time_line-requires-clause-all
write_time_line-requires-clause-all g c = c.requires.all c.in-TimeLine.is

pub returns-in-TimeLine : goal.returns-in-TimeLine
returns-in-TimeLine g c =
    subst (λ (t : List ℕ). WritesText g.K.Sink.held g.K.Sink.faults c.args.out.now c.write_time_line.new.sink c.write_time_line.result t)
    (time_line_is c.args.picture c.in-TimeLine.is c.args.window.now c.args.verdict.now c.args.told.now c.args.table.now c.args.trace.now)
    c.write_time_line.ensures

pub returns-in-Cycles : goal.returns-in-Cycles
returns-in-Cycles g c =
    subst (λ (t : List ℕ). WritesText g.K.Sink.held g.K.Sink.faults c.args.out.now c.write_cycles.new.sink c.write_cycles.result t)
    (cycles_are c.args.picture c.in-Cycles.is c.args.window.now c.args.verdict.now c.args.told.now c.args.table.now c.args.trace.now)
    c.write_cycles.ensures
