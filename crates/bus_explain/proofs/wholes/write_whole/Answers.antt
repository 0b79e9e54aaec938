use Rattle.bus_outer.proofs.TextLaws.{◌▸◌, ends_text}
use Rattle.bus_explain.proofs.wholes.write_whole.Goals as goal

pub returns : goal.returns
returns g c =
    ends_text g.K.Sink.held g.K.Sink.faults c.args.sink.now c.put_reason.new.sink c.finish.new.sink c.new-text.result c.put_reason.new.text c.finish.result _
    c.finish.ensures (c.say.ensures ▸ c.put_reason.ensures) c.new-text.ensures
