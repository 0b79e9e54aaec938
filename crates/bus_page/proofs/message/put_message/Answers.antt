use Rattle.std.proofs.Common.{List, ℕ, ◌++◌, ◌+◌, ◌-◌, ◌*◌, ◌/◌, ap, codes, subst, ◌∙◌}
use Rattle.std.specs.Prelude.{decimal}
use Rattle.bus_outer.specs.Texts.{Adds}
use Rattle.bus_outer.proofs.TextLaws.{◌▸◌}
use Rattle.bus_pen.specs.declared.area.Area.{Area}
use Rattle.bus_page.specs.Messages.{area_of, box_text, inside_text}
use Rattle.bus_page.proofs.message.put_message.Goals as goal

pub returns : goal.returns
returns g c =
    let text : Area → ℕ → List ℕ = λ a n. box_text a c.args.number c.args.stretch ++ inside_text a c.args.number n in
    subst (λ (t : List ℕ). Adds g.K.Sink.held g.K.Sink.faults c.args.sink.now c.put_inside.new.sink c.args.text.now c.put_inside.new.text t)
    (ap (λ (x : Area). text x c.saturating_sub-bits.result) (c.area_of-area.ensures.value)
    ∙ ap (λ (x : ℕ). text (area_of c.args.scale.now c.args.stretch.from c.args.stretch.to c.args.top 280) x) (c.saturating_sub-bits.ensures))
    (c.put_box.ensures ▸ c.put_inside.ensures)
