use Rattle.bus_outer.proofs.TextLaws.{◌▸◌, ends_text}
use Rattle.bus_explain.proofs.refused.write_refused.Goals as goal

pub returns : goal.returns
returns g c =
    ends_text g.K.Sink.held g.K.Sink.faults c.args.sink.now c.put_planned.new.sink c.finish.new.sink c.new-text.result c.put_planned.new.text c.finish.result _
    c.finish.ensures (c.put_refusal.ensures ▸ c.put_advices.ensures ▸ c.put_takes.ensures ▸ c.put_planned.ensures) c.new-text.ensures
