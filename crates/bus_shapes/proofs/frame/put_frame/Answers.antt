use Rattle.bus_outer.proofs.TextLaws.{◌▸◌}
use Rattle.bus_shapes.proofs.frame.put_frame.Goals as goal

pub returns : goal.returns
returns g c =
    c.put_size.ensures ▸ c.put_title.ensures ▸ c.put_style.ensures ▸ c.put_told_style.ensures ▸ c.put_box.ensures ▸ c.put_heads.ensures
    ▸ c.put_facts.ensures
