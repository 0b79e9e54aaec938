use Rattle.std.proofs.Common.{sym, subst}
use Rattle.bus_outer.specs.Sinks.{WritesText}
use Rattle.bus_tool.specs.PlanTexts.{cable_plan_text}
use Rattle.bus_tool.proofs.cable_plan.write_cable_plan.Goals as goal

pub returns-in-Planned : goal.returns-in-Planned
returns-in-Planned g c =
    subst (λ answer. WritesText g.K.Sink.held g.K.Sink.faults c.args.sink.now c.write_table.new.sink c.write_table.result (cable_plan_text answer))
    (sym c.in-Planned.is) c.write_table.ensures.written
