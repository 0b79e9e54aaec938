use Rattle.std.proofs.Common.{List, ℕ, ◌++◌, ◌+◌, ap, subst, ◌∙◌}
use Rattle.bus_outer.specs.Texts.{Adds}
use Rattle.bus_outer.proofs.TextLaws.{◌▸◌}
use Rattle.std.specs.Prelude.{◌==◌}
use Rattle.bus_pen.specs.declared.area.Area.{Area}
use Rattle.bus_pen.specs.declared.class.Class.{Class}
use Rattle.bus_pen.specs.Scales.{place}
use Rattle.bus_page.specs.declared.paint.Paint.{Paint}
use Rattle.bus_page.specs.declared.paint.Paint.TheVariants.{Wait}
use Rattle.bus_page.specs.Bars.{words_class}
use Rattle.bus_page.specs.Messages.{area_of}
use Rattle.bus_page.specs.Waits.{before_text, behind_text, message_paint}
use Rattle.bus_page.specs.Paints.{plain}
use Rattle.bus_page.proofs.waits.put_row.Goals as goal

pub returns : goal.returns
returns g c =
    let wait = area_of c.args.scale.now 0 c.args.most c.args.top 150 in
    let sent = area_of c.args.scale.now c.args.most (c.args.most + c.args.bits) c.args.top 150 in
    let paint = message_paint (c.args.bits == c.args.greatest) in
    let class = words_class (c.args.bits == c.args.greatest) in
    let text : Area → Paint → Area → Class → ℕ → List ℕ = λ a p b w x1. before_text c.args.top c.args.number ++ plain Wait a ++ plain p b
    ++ behind_text w x1 c.args.top (c.args.most + c.args.bits) in
    subst (λ (t : List ℕ). Adds g.K.Sink.held g.K.Sink.faults c.args.sink.now c.put_behind.new.sink c.args.text.now c.put_behind.new.text t)
    (ap (λ (x : Area). text x c.message_paint-paint.result c.area_of-2.result c.words_class-class.result c.place.result) (c.area_of.ensures.value)
    ∙ ap (λ (x : Paint). text wait x c.area_of-2.result c.words_class-class.result c.place.result) (c.message_paint-paint.ensures)
    ∙ ap (λ (x : Area). text wait paint x c.words_class-class.result c.place.result) (c.area_of-2.ensures.value)
    ∙ ap (λ (x : Class). text wait paint sent x c.place.result) (c.words_class-class.ensures)
    ∙ ap (λ (x : ℕ). text wait paint sent class x) (c.place.ensures.value))
    (c.put_before.ensures ▸ c.put_plain.ensures ▸ c.put_plain-2.ensures ▸ c.put_behind.ensures)
