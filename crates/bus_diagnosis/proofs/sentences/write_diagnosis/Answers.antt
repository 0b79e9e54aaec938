use Rattle.bus_outer.proofs.TextLaws.{ends_text}
use Rattle.bus_diagnosis.proofs.sentences.write_diagnosis.Goals as goal

pub returns : goal.returns
returns g c =
    ends_text g.K.Sink.held g.K.Sink.faults c.args.sink.now c.put_diagnosis.new.sink c.finish.new.sink c.new-text.result c.put_diagnosis.new.text
    c.finish.result _ c.finish.ensures c.put_diagnosis.ensures c.new-text.ensures
