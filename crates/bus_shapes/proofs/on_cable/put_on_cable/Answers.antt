use Rattle.bus_outer.proofs.TextLaws.{◌▸◌}
use Rattle.bus_shapes.proofs.on_cable.put_on_cable.Goals as goal

pub returns : goal.returns
returns g c = c.put.ensures ▸ c.put_receptions.ensures ▸ c.put-2.ensures
