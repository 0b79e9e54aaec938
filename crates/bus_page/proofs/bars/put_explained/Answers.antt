use Rattle.bus_outer.proofs.TextLaws.{◌▸◌}
use Rattle.bus_page.proofs.bars.put_explained.Goals as goal

pub returns : goal.returns
returns g c = c.put_legend.ensures ▸ c.put_picture.ensures
