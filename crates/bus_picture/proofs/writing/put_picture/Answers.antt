use Rattle.std.proofs.Common.{ℕ, List, ◌+◌, ◌++◌, subst}
use Rattle.bus_outer.specs.Texts.{Adds}
use Rattle.bus_outer.proofs.TextLaws.{◌▸◌}
use Rattle.bus_shapes.specs.declared.counts.Counts.{Counts}
use Rattle.bus_shapes.specs.Frames.{frame_text, tail_text}
use Rattle.bus_strings.specs.Messages.{Entry}
use Rattle.bus_picture.specs.TimeLines.{Kinds, counts_of, foot_text, kinds_of, plot_text}
use Rattle.bus_picture.proofs.writing.put_picture.Goals as goal

pub returns : goal.returns
returns g c =
    let foot : Adds g.K.Sink.held g.K.Sink.faults c.put_plot.new.sink c.put_foot.new.sink c.put_plot.new.text c.put_foot.new.text
    (foot_text c.lane_top-bottom.result c.args.left_out (kinds_of c.args.scale.now c.args.lanes.now c.args.subject.now.table.now c.args.subject.now.trace.now)) =
    subst (λ (kinds : Kinds). Adds g.K.Sink.held g.K.Sink.faults c.put_plot.new.sink c.put_foot.new.sink c.put_plot.new.text c.put_foot.new.text
    (foot_text c.lane_top-bottom.result c.args.left_out kinds)) c.kinds_of-kinds.ensures c.put_foot.ensures in
    subst (λ (bottom : ℕ). Adds g.K.Sink.held g.K.Sink.faults c.args.sink.now c.put_tail.new.sink c.args.text.now c.put_tail.new.text
    (frame_text (bottom + 1060) c.args.subject.now.verdict.now c.args.subject.now.told.now c.args.subject.now.table.now c.args.subject.now.trace.now.list (counts_of c.args.scale.now c.args.subject.now.trace.now)
    ++ plot_text c.args.scale.now bottom c.args.lanes.now c.args.subject.now.told.now c.args.subject.now.table.now c.args.subject.now.trace.now ++ foot_text bottom c.args.left_out (kinds_of c.args.scale.now c.args.lanes.now c.args.subject.now.table.now c.args.subject.now.trace.now) ++ tail_text))
    c.lane_top-bottom.ensures.value
    (subst (λ (counts : Counts). Adds g.K.Sink.held g.K.Sink.faults c.args.sink.now c.put_tail.new.sink c.args.text.now c.put_tail.new.text
    (frame_text (c.lane_top-bottom.result + 1060) c.args.subject.now.verdict.now c.args.subject.now.told.now c.args.subject.now.table.now c.args.subject.now.trace.now.list counts
    ++ plot_text c.args.scale.now c.lane_top-bottom.result c.args.lanes.now c.args.subject.now.told.now c.args.subject.now.table.now c.args.subject.now.trace.now
    ++ foot_text c.lane_top-bottom.result c.args.left_out (kinds_of c.args.scale.now c.args.lanes.now c.args.subject.now.table.now c.args.subject.now.trace.now) ++ tail_text)) c.counts-counts.ensures
    (subst (λ (list : List Entry). Adds g.K.Sink.held g.K.Sink.faults c.args.sink.now c.put_tail.new.sink c.args.text.now c.put_tail.new.text
    (frame_text (c.lane_top-bottom.result + 1060) c.args.subject.now.verdict.now c.args.subject.now.told.now c.args.subject.now.table.now list c.counts-counts.result
    ++ plot_text c.args.scale.now c.lane_top-bottom.result c.args.lanes.now c.args.subject.now.told.now c.args.subject.now.table.now c.args.subject.now.trace.now
    ++ foot_text c.lane_top-bottom.result c.args.left_out (kinds_of c.args.scale.now c.args.lanes.now c.args.subject.now.table.now c.args.subject.now.trace.now) ++ tail_text)) c.list-list.ensures.value
    (c.put_frame.ensures ▸ c.put_plot.ensures ▸ foot ▸ c.put_tail.ensures)))
