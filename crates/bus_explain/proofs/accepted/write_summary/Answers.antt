use Rattle.bus_outer.proofs.TextLaws.{◌▸◌, ends_text}
use Rattle.bus_explain.proofs.accepted.write_summary.Goals as goal

pub put_before-requires : goal.put_before-requires
put_before-requires g c = c.requires

pub returns : goal.returns
returns g c =
    ends_text g.K.Sink.held g.K.Sink.faults c.args.sink.now c.put_behind.new.sink c.finish.new.sink c.new-text.result c.put_behind.new.text
    c.finish.result _ c.finish.ensures (c.put_before.ensures ▸ c.put_behind.ensures) c.new-text.ensures
