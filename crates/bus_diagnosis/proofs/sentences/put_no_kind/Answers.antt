use Rattle.std.proofs.Common.{subst}
use Rattle.bus_outer.specs.Texts.{Adds}
use Rattle.bus_outer.proofs.TextLaws.{◌▸◌}
use Rattle.bus_diagnosis.proofs.sentences.put_no_kind.Goals as goal

pub returns : goal.returns
returns g c =
    c.say.ensures
    ▸ subst (Adds g.K.Sink.held g.K.Sink.faults c.say.new.sink c.put.new.sink c.say.new.text c.put.new.self) c.first_form.ensures c.put.ensures
    ▸ subst (Adds g.K.Sink.held g.K.Sink.faults c.put.new.sink c.put-2.new.sink c.put.new.self c.put-2.new.self) c.first_form-2.ensures c.put-2.ensures
    ▸ subst (Adds g.K.Sink.held g.K.Sink.faults c.put-2.new.sink c.put-3.new.sink c.put-2.new.self c.put-3.new.self) c.first_form-3.ensures c.put-3.ensures
