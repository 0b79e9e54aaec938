use Rattle.std.proofs.Common.{◌≡◌, ℕ, ◌+◌, ◌-◌, ◌++◌, ap, subst, ◌∙◌}
use Rattle.bus_outer.specs.Texts.{Adds}
use Rattle.bus_outer.proofs.TextLaws.{◌▸◌}
use Rattle.bus_pen.specs.declared.area.Area.{Area}
use Rattle.bus_pen.specs.declared.class.Class.{Class}
use Rattle.bus_pen.specs.Shapes.{titled_text}
use Rattle.bus_picture.specs.Boxes.{is_narrow, cluster_words}
use Rattle.bus_picture.specs.Rows.{box_area, box_class, inset, more_text, overhang, stretch}
use Rattle.bus_picture.proofs.boxes.put_cluster.Goals as goal

pub returns : goal.returns
returns g c =
    let whole : c.stretch-whole.result ≡ box_area c.args.canvas.now.scale c.args.row.now c.args.cluster.now =
    c.stretch-whole.ensures.value
    ∙ ap (λ (height : ℕ). stretch c.args.canvas.now.scale c.args.cluster.now (c.args.row.now.top + 60 + (180 - height)) height) c.cluster_height-height.ensures.value in
    let far : c.overhang.result ≡ overhang c.args.row.now (is_narrow c.args.canvas.now.scale c.args.cluster.now.first) =
    c.overhang.ensures.value ∙ ap (overhang c.args.row.now) c.is_narrow-narrow.ensures in
    subst (λ (area : Area). Adds g.K.Sink.held g.K.Sink.faults c.args.sink.now c.put_more.new.sink c.args.text.now c.put_more.new.text
    (titled_text (box_class c.args.canvas.now.scale c.args.row.now c.args.cluster.now) area (cluster_words c.args.canvas.now.scale c.args.cluster.now)
    ++ more_text c.args.row.now.terminal c.args.canvas.now.scale c.args.canvas.now.receivers.now c.args.row.now c.args.canvas.now.list.now c.args.cluster.now))
    (c.inset-area.ensures ∙ ap (λ n. inset n c.stretch-whole.result) far
    ∙ ap (inset (overhang c.args.row.now (is_narrow c.args.canvas.now.scale c.args.cluster.now.first))) whole)
    (subst (λ (class : Class). Adds g.K.Sink.held g.K.Sink.faults c.args.sink.now c.put_more.new.sink c.args.text.now c.put_more.new.text
    (titled_text class c.inset-area.result (cluster_words c.args.canvas.now.scale c.args.cluster.now)
    ++ more_text c.args.row.now.terminal c.args.canvas.now.scale c.args.canvas.now.receivers.now c.args.row.now c.args.canvas.now.list.now c.args.cluster.now)) c.box_class.ensures
    ((c.begin_titled.ensures ▸ c.put_cluster_words.ensures ▸ c.end_titled.ensures) ▸ c.put_more.ensures))
