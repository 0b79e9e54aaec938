use Rattle.std.proofs.Common.{List, ℕ, ◌++◌, ◌+◌, ◌-◌, ◌*◌, ◌/◌, ap, codes, subst, ◌∙◌}
use Rattle.std.specs.Prelude.{decimal}
use Rattle.bus_outer.specs.Texts.{Adds}
use Rattle.bus_outer.proofs.TextLaws.{◌▸◌}
use Rattle.bus_pen.specs.Scales.{place}
use Rattle.bus_page.specs.Cycles.{corner}
use Rattle.bus_page.proofs.cycles.put_upper_corners.Goals as goal

pub returns : goal.returns
returns g c =
    let text : ℕ → ℕ → List ℕ = λ x1 x2. corner x1 620 ++ codes "L" ++ corner x2 620 in
    subst (λ (t : List ℕ). Adds g.K.Sink.held g.K.Sink.faults c.args.sink.now c.put_corner-2.new.sink c.args.text.now c.put_corner-2.new.text t)
    (ap (λ (x : ℕ). text x c.place-2.result) (c.place.ensures.value)
    ∙ ap (λ (x : ℕ). text (place c.args.scale.now c.args.turn.short.from) x) (c.place-2.ensures.value))
    (c.put_corner.ensures ▸ c.put.ensures ▸ c.put_corner-2.ensures)
