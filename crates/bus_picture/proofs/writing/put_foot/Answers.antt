use Rattle.bus_outer.proofs.TextLaws.{◌▸◌}
use Rattle.bus_picture.proofs.writing.put_foot.Goals as goal

pub returns : goal.returns
returns g c = c.put_left_out.ensures ▸ c.put_legend.ensures
