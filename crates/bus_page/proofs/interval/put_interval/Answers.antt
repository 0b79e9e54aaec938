use Rattle.std.proofs.Common.{List, ℕ, ◌++◌, ◌+◌, ◌-◌, ◌*◌, ◌/◌, ap, codes, subst, ◌∙◌}
use Rattle.std.specs.Prelude.{decimal}
use Rattle.bus_outer.specs.Texts.{Adds}
use Rattle.bus_outer.proofs.TextLaws.{◌▸◌}
use Rattle.std.specs.List.{flat_map}
use Rattle.bus_pen.specs.declared.scale.Scale.{Scale}
use Rattle.bus_page.specs.Messages.{axes_text, lane_text}
use Rattle.bus_page.specs.Intervals.{interval_scale, legend_text, slot_text}
use Rattle.bus_page.specs.Paints.{picture_end, picture_front}
use Rattle.bus_page.proofs.interval.put_interval.Goals as goal

pub returns : goal.returns
returns g c =
    let text : Scale → List ℕ = λ s. picture_front 1060 (codes "One interval, with longest messages") ++ axes_text s 480 ++ lane_text 340 (codes "longest") c.args.ti ++ flat_map (slot_text s) c.args.slots.now ++ legend_text ++ picture_end in
    subst (λ (t : List ℕ). Adds g.K.Sink.held g.K.Sink.faults c.args.sink.now c.end_picture.new.sink c.args.text.now c.end_picture.new.text t)
    (ap (λ (x : Scale). text x) (c.interval_scale-scale.ensures.value))
    (c.begin_picture.ensures ▸ c.put_axes.ensures ▸ c.put_lane.ensures ▸ c.put_slots.ensures ▸ c.put_legend.ensures ▸ c.end_picture.ensures)
