use Rattle.std.proofs.Common.{List, ℕ, ap, sym, subst, ◌∙◌}
use Rattle.bus_outer.specs.Sinks.{WritesText}
use Rattle.bus_table.specs.declared.mode.Mode.{Mode}
use Rattle.bus_page.specs.Pages.{margins_text}
use Rattle.bus_page.proofs.sentences.write_margins.Goals as goal

pub returns-in-Aperiodic : goal.returns-in-Aperiodic
returns-in-Aperiodic g c =
    subst (λ (t : List ℕ). WritesText g.K.Sink.held g.K.Sink.faults c.args.sink.now c.write_aperiodic.new.sink c.write_aperiodic.result t)
    (ap (λ (m : Mode). margins_text m c.args.bounds c.args.table.now) (sym c.in-Aperiodic.is ∙ c.mode.ensures.value)) c.write_aperiodic.ensures

pub returns-in-Periodic : goal.returns-in-Periodic
returns-in-Periodic g c =
    subst (λ (t : List ℕ). WritesText g.K.Sink.held g.K.Sink.faults c.args.sink.now c.write_periodic.new.sink c.write_periodic.result t)
    (ap (λ (m : Mode). margins_text m c.args.bounds c.args.table.now) (sym c.in-Periodic.is ∙ c.mode.ensures.value)) c.write_periodic.ensures
