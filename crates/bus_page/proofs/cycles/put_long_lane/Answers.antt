use Rattle.bus_outer.proofs.TextLaws.{◌▸◌}
use Rattle.bus_page.proofs.cycles.put_long_lane.Goals as goal

pub returns : goal.returns
returns g c = c.put_lane.ensures ▸ c.put_gap.ensures ▸ c.put_long.ensures
