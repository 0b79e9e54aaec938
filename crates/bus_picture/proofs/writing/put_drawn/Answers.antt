use Rattle.std.proofs.Common.{rules, ◌≡◌, ℕ, ◌-◌, List, length, ap, subst, ◌∙◌}
use Rattle.bus_strings.specs.Messages.{Entry}
use Rattle.bus_outer.specs.Texts.{Adds}
use Rattle.bus_dump.specs.declared.lane.Lane.{Lane}
use Rattle.bus_picture.specs.Lanes.{drawn_lanes}
use Rattle.bus_picture.specs.TimeLines.{picture_text}
use Rattle.bus_picture.proofs.writing.put_drawn.Goals as goal

pub returns : goal.returns
returns g c =
    let drawn = c.drawn_lanes-lanes.ensures ∙ ap (λ (l : List Entry). drawn_lanes c.args.scale.now c.args.subject.now.told.now l c.args.all.items) c.list-list.ensures.value in
    let slice = c.as_slice.ensures.value ∙ drawn in
    let left : c.saturating_sub-left_out.result ≡ length c.args.all.items - length (drawn_lanes c.args.scale.now c.args.subject.now.told.now c.args.subject.now.trace.now.list c.args.all.items) = search rules in
    subst (λ (ls : List Lane). Adds g.K.Sink.held g.K.Sink.faults c.args.sink.now c.put_picture.new.sink c.args.text.now c.put_picture.new.text
    (picture_text c.args.scale.now ls (length c.args.all.items - length (drawn_lanes c.args.scale.now c.args.subject.now.told.now c.args.subject.now.trace.now.list c.args.all.items)) c.args.subject.now.verdict.now c.args.subject.now.told.now c.args.subject.now.table.now c.args.subject.now.trace.now)) slice
    (subst (λ (n : ℕ). Adds g.K.Sink.held g.K.Sink.faults c.args.sink.now c.put_picture.new.sink c.args.text.now c.put_picture.new.text
    (picture_text c.args.scale.now c.as_slice.result.now n c.args.subject.now.verdict.now c.args.subject.now.told.now c.args.subject.now.table.now c.args.subject.now.trace.now)) left c.put_picture.ensures)
