use Rattle.std.proofs.Common.{List, ℕ, ◌++◌, ◌+◌, ◌-◌, ◌*◌, ◌/◌, ap, codes, subst, ◌∙◌}
use Rattle.std.specs.Prelude.{decimal}
use Rattle.bus_outer.specs.Texts.{Adds}
use Rattle.bus_outer.proofs.TextLaws.{◌▸◌}
use Rattle.bus_pen.specs.declared.area.Area.{Area}
use Rattle.bus_page.specs.Messages.{area_of}
use Rattle.bus_page.specs.Paints.{plain}
use Rattle.bus_page.specs.declared.paint.Paint.TheVariants.{Gap}
use Rattle.bus_page.proofs.message.put_gap.Goals as goal

pub returns : goal.returns
returns g c =
    let text : Area → List ℕ = λ a. plain Gap a in
    subst (λ (t : List ℕ). Adds g.K.Sink.held g.K.Sink.faults c.args.sink.now c.put_plain.new.sink c.args.text.now c.put_plain.new.text t)
    (ap (λ (x : Area). text x) (c.area_of-area.ensures.value))
    (c.put_plain.ensures)
