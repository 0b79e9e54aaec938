use Rattle.std.proofs.Common.{List, ℕ, ◌++◌, ◌+◌, ◌-◌, ◌*◌, ◌/◌, ap, codes, subst, ◌∙◌}
use Rattle.std.specs.Prelude.{decimal}
use Rattle.bus_outer.specs.Texts.{Adds}
use Rattle.bus_outer.proofs.TextLaws.{◌▸◌}
use Rattle.bus_pen.specs.declared.area.Area.{Area}
use Rattle.bus_pen.specs.Scales.{place}
use Rattle.bus_page.specs.declared.paint.Paint.{Paint}
use Rattle.bus_page.specs.Messages.{area_of}
use Rattle.bus_pen.specs.declared.class.Class.{Class}
use Rattle.bus_page.specs.Bars.{bar_end, before_text, behind_text, is_least, paint_of, words_class}
use Rattle.bus_page.specs.Paints.{plain}
use Rattle.bus_page.proofs.bars.put_bar.Goals as goal

pub returns : goal.returns
returns g c =
    let text : Paint → Class → Area → ℕ → List ℕ = λ p w a x1. before_text c.args.top c.args.limit.rule ++ plain p a ++ behind_text w x1 c.args.top c.args.limit.bears in
    subst (λ (t : List ℕ). Adds g.K.Sink.held g.K.Sink.faults c.args.sink.now c.put_behind.new.sink c.args.text.now c.put_behind.new.text t)
    (ap (λ (x : Paint). text x c.words_class-class.result c.area_of.result c.place.result) (c.paint_of-paint.ensures ∙ ap paint_of c.is_least-limits.ensures)
    ∙ ap (λ (x : Class). text (paint_of (is_least c.args.tolerance c.args.limit.bears)) x c.area_of.result c.place.result) (c.words_class-class.ensures ∙ ap words_class c.is_least-limits.ensures)
    ∙ ap (λ (x : Area). text (paint_of (is_least c.args.tolerance c.args.limit.bears)) (words_class (is_least c.args.tolerance c.args.limit.bears)) x c.place.result) (c.area_of.ensures.value ∙ ap (λ n. area_of c.args.scale.now 0 n c.args.top 150) c.unwrap_or-end.ensures)
    ∙ ap (λ (x : ℕ). text (paint_of (is_least c.args.tolerance c.args.limit.bears)) (words_class (is_least c.args.tolerance c.args.limit.bears)) (area_of c.args.scale.now 0 (bar_end c.args.scale.now c.args.limit.bears) c.args.top 150) x) (c.place.ensures.value ∙ ap (place c.args.scale.now) c.unwrap_or-end.ensures))
    (c.put_before.ensures ▸ c.put_plain.ensures ▸ c.put_behind.ensures)
