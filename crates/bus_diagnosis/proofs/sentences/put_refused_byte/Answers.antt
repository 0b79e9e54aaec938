use Rattle.std.proofs.Common.{subst}
use Rattle.bus_outer.specs.Texts.{Adds}
use Rattle.bus_outer.proofs.TextLaws.{◌▸◌}
use Rattle.bus_diagnosis.proofs.sentences.put_refused_byte.Goals as goal

pub returns : goal.returns
returns g c =
    c.say.ensures
    ▸ subst (Adds g.K.Sink.held g.K.Sink.faults c.say.new.sink c.put.new.sink c.say.new.text c.put.new.self) c.trace_reason_text.ensures c.put.ensures
    ▸ c.put_forms.ensures
