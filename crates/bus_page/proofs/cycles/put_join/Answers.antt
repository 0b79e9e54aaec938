use Rattle.bus_outer.proofs.TextLaws.{◌▸◌}
use Rattle.bus_page.proofs.cycles.put_join.Goals as goal

pub returns : goal.returns
returns g c = c.put.ensures ▸ c.put_upper_corners.ensures ▸ c.put-2.ensures ▸ c.put_lower_corners.ensures ▸ c.put-3.ensures
