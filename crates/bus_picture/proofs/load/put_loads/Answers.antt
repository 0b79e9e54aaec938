use Rattle.bus_outer.proofs.TextLaws.{◌▸◌}
use Rattle.bus_picture.proofs.load.put_loads.Goals as goal

pub returns : goal.returns
returns g c = c.put_bus_load.ensures ▸ c.put_lane_loads.ensures
