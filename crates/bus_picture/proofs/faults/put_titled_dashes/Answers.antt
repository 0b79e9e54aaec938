use Rattle.std.proofs.Common.{subst}
use Rattle.bus_outer.specs.Texts.{Adds}
use Rattle.bus_outer.proofs.TextLaws.{◌▸◌}
use Rattle.bus_pen.specs.declared.area.Area.{Area}
use Rattle.bus_pen.specs.declared.class.Class.TheVariants.{Fault}
use Rattle.bus_pen.specs.Shapes.{titled_text}
use Rattle.bus_picture.specs.Faults.{title}
use Rattle.bus_picture.proofs.faults.put_titled_dashes.Goals as goal

pub returns : goal.returns
returns g c =
    subst (λ (area : Area). Adds g.K.Sink.held g.K.Sink.faults c.args.sink.now c.put_titled.new.sink c.args.text.now c.put_titled.new.text
    (titled_text Fault area (title c.args.fault.now))) c.upper_dash-upper.ensures c.put_titled.ensures
    ▸ subst (λ (area : Area). Adds g.K.Sink.held g.K.Sink.faults c.put_titled.new.sink c.put_titled-2.new.sink c.put_titled.new.text c.put_titled-2.new.text
    (titled_text Fault area (title c.args.fault.now))) c.lower_dash-lower.ensures c.put_titled-2.ensures
