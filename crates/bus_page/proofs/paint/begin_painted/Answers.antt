use Rattle.bus_outer.proofs.TextLaws.{◌▸◌}
use Rattle.bus_page.proofs.paint.begin_painted.Goals as goal

pub returns : goal.returns
returns g c = c.put_front.ensures ▸ c.put.ensures
