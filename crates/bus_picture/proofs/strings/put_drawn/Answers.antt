use Rattle.std.proofs.Common.{◌++◌, subst}
use Rattle.bus_outer.specs.Texts.{Adds}
use Rattle.bus_outer.proofs.TextLaws.{◌▸◌}
use Rattle.bus_pen.specs.declared.area.Area.{Area}
use Rattle.bus_pen.specs.declared.class.Class.{Class}
use Rattle.bus_pen.specs.Shapes.{titled_text}
use Rattle.bus_picture.specs.Strings.{inside_text, string_class, titled_words}
use Rattle.bus_picture.proofs.strings.put_drawn.Goals as goal

pub returns : goal.returns
returns g c =
    subst (λ (area : Area). Adds g.K.Sink.held g.K.Sink.faults c.args.sink.now c.put_inside.new.sink c.args.text.now c.put_inside.new.text
    (titled_text (string_class c.args.sent.now.garbled) area (titled_words c.args.canvas.now.receivers.now c.args.sent.now c.args.from c.args.to c.args.string.now)
    ++ inside_text c.args.canvas.now.scale c.args.top c.args.sent.now.garbled c.args.from area c.args.string.now)) c.string_area-area.ensures.value
    (subst (λ (class : Class). Adds g.K.Sink.held g.K.Sink.faults c.args.sink.now c.put_inside.new.sink c.args.text.now c.put_inside.new.text
    (titled_text class c.string_area-area.result (titled_words c.args.canvas.now.receivers.now c.args.sent.now c.args.from c.args.to c.args.string.now)
    ++ inside_text c.args.canvas.now.scale c.args.top c.args.sent.now.garbled c.args.from c.string_area-area.result c.args.string.now)) c.string_class.ensures
    ((c.begin_titled.ensures ▸ c.put_titled_words.ensures ▸ c.end_titled.ensures) ▸ c.put_inside.ensures))
