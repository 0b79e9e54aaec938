use Rattle.std.proofs.Common.{List, ℕ, ◌++◌, ap, subst}
use Rattle.bus_outer.specs.Texts.{Adds}
use Rattle.bus_outer.proofs.TextLaws.{◌▸◌}
use Rattle.bus_pen.specs.declared.class.Class.{Class}
use Rattle.bus_pen.specs.Shapes.{titled_text}
use Rattle.bus_shapes.specs.Sayings.{sent_words}
use Rattle.bus_cycles.specs.RowTexts.{number_text}
use Rattle.bus_cycles.proofs.boxes.put_in.Goals as goal

pub returns : goal.returns
returns g c =
    subst (λ (t : List ℕ). Adds g.K.Sink.held g.K.Sink.faults c.args.sink.now c.put_number.new.sink c.args.text.now c.put_number.new.text t)
    (ap (λ (k : Class). titled_text k c.args.area (sent_words c.args.x.now.sent) ++ number_text c.args.area c.args.x.now.sent) c.class_of.ensures)
    (c.begin_titled.ensures ▸ c.put_sent.ensures ▸ c.end_titled.ensures ▸ c.put_number.ensures)
