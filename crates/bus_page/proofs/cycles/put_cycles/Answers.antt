use Rattle.std.proofs.Common.{List, ℕ, ◌++◌, ◌+◌, ◌-◌, ◌*◌, ◌/◌, ap, codes, subst, ◌∙◌}
use Rattle.std.specs.Prelude.{decimal}
use Rattle.bus_outer.specs.Texts.{Adds}
use Rattle.bus_outer.proofs.TextLaws.{◌▸◌}
use Rattle.bus_pen.specs.declared.scale.Scale.{Scale}
use Rattle.bus_page.specs.Cycles.{behind_text, long_lane, marks_text, scale_of, short_lane}
use Rattle.bus_page.specs.Paints.{picture_end, picture_front}
use Rattle.bus_page.proofs.cycles.put_cycles.Goals as goal

pub returns : goal.returns
returns g c =
    let text : Scale → List ℕ = λ s. picture_front 1850 (codes "The shortest and the longest cycle") ++ behind_text s c.args.times c.args.turns.now ++ short_lane s c.args.times c.args.turns.now ++ long_lane s c.args.times c.args.turns.now ++ marks_text s c.args.times ++ picture_end in
    subst (λ (t : List ℕ). Adds g.K.Sink.held g.K.Sink.faults c.args.sink.now c.end_picture.new.sink c.args.text.now c.end_picture.new.text t)
    (ap (λ (x : Scale). text x) (c.scale_of-scale.ensures.value))
    (c.begin_picture.ensures ▸ c.put_behind.ensures ▸ c.put_short_lane.ensures ▸ c.put_long_lane.ensures ▸ c.put_marks.ensures ▸ c.end_picture.ensures)
