use Rattle.std.proofs.Common.{List, ap, subst, ◌∙◌}
use Rattle.bus_outer.specs.Texts.{Adds}
use Rattle.bus_outer.proofs.TextLaws.{ends_text}
use Rattle.bus_dump.specs.declared.lane.Lane.{Lane}
use Rattle.bus_dump.specs.Lanes.{lanes}
use Rattle.bus_pen.specs.declared.scale.Scale.{Scale}
use Rattle.bus_picture.specs.TimeLines.{drawn_text, scale_of, time_line_text}
use Rattle.bus_picture.proofs.writing.write_time_line.Goals as goal

pub returns : goal.returns
unfolding time_line_text
returns g c =
    let all = c.lanes_of-lanes.ensures ∙ ap (lanes c.args.table.now) c.list.ensures.value in
    ends_text g.K.Sink.held g.K.Sink.faults c.args.sink.now c.put_drawn.new.sink c.finish.new.sink c.new-text.result c.put_drawn.new.text c.finish.result _
    c.finish.ensures
    (subst (λ (l : List Lane). Adds g.K.Sink.held g.K.Sink.faults c.args.sink.now c.put_drawn.new.sink c.new-text.result c.put_drawn.new.text
    (drawn_text (scale_of c.args.window.now) l c.args.verdict.now c.args.told.now c.args.table.now c.args.trace.now)) all
    (subst (λ (scale : Scale). Adds g.K.Sink.held g.K.Sink.faults c.args.sink.now c.put_drawn.new.sink c.new-text.result c.put_drawn.new.text
    (drawn_text scale c.lanes_of-lanes.result.items c.args.verdict.now c.args.told.now c.args.table.now c.args.trace.now))
    c.scale_of-scale.ensures.value c.put_drawn.ensures))
    c.new-text.ensures
