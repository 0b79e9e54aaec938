use Rattle.std.proofs.Common.{subst}
use Rattle.bus_outer.specs.Texts.{Adds}
use Rattle.bus_outer.proofs.TextLaws.{◌▸◌}
use Rattle.bus_diagnosis.proofs.lines.put_needed.Goals as goal

pub returns : goal.returns
returns g c =
    c.put.ensures
    ▸ subst (Adds g.K.Sink.held g.K.Sink.faults c.put.new.sink c.put-2.new.sink c.put.new.self c.put-2.new.self) c.first_form.ensures c.put-2.ensures
