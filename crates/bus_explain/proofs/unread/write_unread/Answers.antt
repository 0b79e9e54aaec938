use Rattle.bus_outer.proofs.TextLaws.{◌▸◌, ends_text}
use Rattle.bus_explain.proofs.unread.write_unread.Goals as goal

pub returns : goal.returns
returns g c =
    ends_text g.K.Sink.held g.K.Sink.faults c.args.sink.now c.put_may_stand.new.sink c.finish.new.sink c.new-text.result c.put_may_stand.new.text c.finish.result _
    c.finish.ensures (c.say.ensures ▸ c.put_reason.ensures ▸ c.put_may_stand.ensures) c.new-text.ensures
