use Rattle.bus_outer.proofs.TextLaws.{◌▸◌, ends_text}
use Rattle.bus_page.proofs.sentences.write_asked_front.Goals as goal

pub returns : goal.returns
returns g c =
    ends_text g.K.Sink.held g.K.Sink.faults c.args.sink.now c.put-2.new.sink c.finish.new.sink c.new-text.result c.put-2.new.self c.finish.result _ c.finish.ensures
    (c.put.ensures ▸ c.put_bounds.ensures ▸ c.put-2.ensures) c.new-text.ensures
