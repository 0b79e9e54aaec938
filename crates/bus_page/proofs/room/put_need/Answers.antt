use Rattle.std.proofs.Common.{List, ℕ, ◌++◌, ◌+◌, ◌-◌, ◌*◌, ◌/◌, ap, codes, subst, ◌∙◌}
use Rattle.std.specs.Prelude.{decimal}
use Rattle.bus_outer.specs.Texts.{Adds}
use Rattle.bus_outer.proofs.TextLaws.{◌▸◌}
use Rattle.bus_pen.specs.declared.scale.Scale.{Scale}
use Rattle.bus_pen.specs.Scales.{place}
use Rattle.bus_page.specs.Paints.{Need, plain}
use Rattle.bus_page.specs.Rooms.{span_scale}
use Rattle.bus_page.proofs.room.put_need.Goals as goal

pub returns : goal.returns
returns g c =
    let text : ℕ → List ℕ = λ x1. plain Need (record { left = x1; top = c.args.top; width = 20; height = 190 }) in
    subst (λ (t : List ℕ). Adds g.K.Sink.held g.K.Sink.faults c.args.sink.now c.put_plain.new.sink c.args.text.now c.put_plain.new.text t)
    (ap text (c.place.ensures.value ∙ ap (λ (s : Scale). place s c.args.span.need) c.scale-scale.ensures.value))
    c.put_plain.ensures
