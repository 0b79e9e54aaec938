use Rattle.std.proofs.Common.{List, ℕ, ◌++◌, ◌+◌, ◌-◌, ◌*◌, ◌/◌, ap, codes, subst, ◌∙◌}
use Rattle.std.specs.Prelude.{decimal}
use Rattle.bus_outer.specs.Texts.{Adds}
use Rattle.bus_outer.proofs.TextLaws.{◌▸◌}
use Rattle.std.proofs.Common.{sym}
use Rattle.bus_table.specs.declared.mode.Mode.{Mode}
use Rattle.bus_margins.specs.declared.level.Margins.{Margins as AperiodicMargins}
use Rattle.bus_margins_periodic.specs.declared.level.Margins.{Margins as PeriodicMargins}
use Rattle.bus_page.specs.Rooms.{aperiodic_picture, mode_rooms, periodic_picture}
use Rattle.bus_page.proofs.rooms.put_mode_rooms.Goals as goal

pub returns-in-Aperiodic : goal.returns-in-Aperiodic
returns-in-Aperiodic g c =
    subst (λ (t : List ℕ). Adds g.K.Sink.held g.K.Sink.faults c.args.sink.now c.put_aperiodic.new.sink c.args.text.now c.put_aperiodic.new.text t)
    (ap (λ (m : AperiodicMargins). aperiodic_picture m.rooms) c.margins.ensures
    ∙ ap (λ (m : Mode). mode_rooms m c.args.bounds c.args.table.now) (sym c.in-Aperiodic.is ∙ c.mode.ensures.value))
    c.put_aperiodic.ensures

pub returns-in-Periodic : goal.returns-in-Periodic
returns-in-Periodic g c =
    subst (λ (t : List ℕ). Adds g.K.Sink.held g.K.Sink.faults c.args.sink.now c.put_periodic.new.sink c.args.text.now c.put_periodic.new.text t)
    (ap (λ (m : PeriodicMargins). periodic_picture m.rooms) c.margins-in-Periodic.ensures
    ∙ ap (λ (m : Mode). mode_rooms m c.args.bounds c.args.table.now) (sym c.in-Periodic.is ∙ c.mode.ensures.value))
    c.put_periodic.ensures
