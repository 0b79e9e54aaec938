use Rattle.std.proofs.Common.{List, ℕ, ◌++◌, ◌+◌, ◌-◌, ◌*◌, ◌/◌, ap, codes, subst, ◌∙◌}
use Rattle.std.specs.Prelude.{decimal}
use Rattle.bus_outer.specs.Texts.{Adds}
use Rattle.bus_outer.proofs.TextLaws.{◌▸◌}
use Rattle.bus_pen.specs.declared.area.Area.{Area}
use Rattle.bus_pen.specs.declared.scale.Scale.{Scale}
use Rattle.bus_page.specs.declared.paint.Paint.{Paint}
use Rattle.bus_page.specs.Bars.{paint_of}
use Rattle.bus_page.specs.Paints.{painted}
use Rattle.bus_page.specs.Rooms.{have_area, is_short, span_scale, span_words}
use Rattle.bus_page.proofs.room.put_have.Goals as goal

pub returns : goal.returns
returns g c =
    let text : Paint → Area → List ℕ = λ p a. painted p a (span_words c.args.span) in
    subst (λ (t : List ℕ). Adds g.K.Sink.held g.K.Sink.faults c.args.sink.now c.end_painted.new.sink c.args.text.now c.end_painted.new.text t)
    (ap (λ (x : Paint). text x c.area_of-area.result) (c.paint_of.ensures ∙ ap paint_of c.is_short.ensures)
    ∙ ap (λ (x : Area). text (paint_of (is_short c.args.span)) x)
    (c.area_of-area.ensures.value ∙ ap (λ (s : Scale). have_area s c.args.top c.args.span) c.scale.ensures.value))
    (c.begin_painted.ensures ▸ c.put_span_words.ensures ▸ c.end_painted.ensures)
