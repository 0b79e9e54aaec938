use Rattle.std.proofs.Common.{List, ℕ, ◌++◌, ◌+◌, ◌-◌, ◌*◌, ◌/◌, ap, codes, subst, ◌∙◌}
use Rattle.std.specs.Prelude.{decimal}
use Rattle.bus_outer.specs.Texts.{Adds}
use Rattle.bus_outer.proofs.TextLaws.{◌▸◌}
use Rattle.std.specs.Prelude.{length}
use Rattle.bus_pen.specs.declared.scale.Scale.{Scale}
use Rattle.bus_page.specs.Bars.{bar_rows, bars_scale, tolerance_mark}
use Rattle.bus_page.specs.Paints.{picture_end, picture_front}
use Rattle.bus_page.proofs.bars.put_picture.Goals as goal

pub returns : goal.returns
returns g c =
    let text : Scale → List ℕ = λ s. picture_front (40 + 210 * length c.args.limits.now) (codes "What each rule bears") ++ bar_rows s c.args.tolerance c.args.limits.now ++ tolerance_mark s (length c.args.limits.now) c.args.tolerance ++ picture_end in
    subst (λ (t : List ℕ). Adds g.K.Sink.held g.K.Sink.faults c.args.sink.now c.end_picture.new.sink c.args.text.now c.end_picture.new.text t)
    (ap (λ (x : Scale). text x) (c.bars_scale-scale.ensures.value))
    (c.begin_picture.ensures ▸ c.put_bar_rows.ensures ▸ c.put_tolerance.ensures ▸ c.end_picture.ensures)
