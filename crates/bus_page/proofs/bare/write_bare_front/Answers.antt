use Rattle.bus_outer.proofs.TextLaws.{◌▸◌, ends_text}
use Rattle.bus_page.proofs.bare.write_bare_front.Goals as goal

pub returns : goal.returns
returns g c =
    ends_text g.K.Sink.held g.K.Sink.faults c.args.sink.now c.put.new.sink c.finish.new.sink c.new-text.result c.put.new.self c.finish.result _ c.finish.ensures
    (c.put_bare_head.ensures ▸ c.put_bare_heading.ensures ▸ c.put_section.ensures ▸ c.put.ensures) c.new-text.ensures
