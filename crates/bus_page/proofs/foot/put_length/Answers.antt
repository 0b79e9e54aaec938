use Rattle.bus_outer.proofs.TextLaws.{◌▸◌}
use Rattle.bus_page.proofs.foot.put_length.Goals as goal

pub returns : goal.returns
returns g c = c.begin_figure.ensures ▸ c.put_byte_count.ensures ▸ c.end_figure.ensures
