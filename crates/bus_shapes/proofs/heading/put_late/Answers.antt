use Rattle.bus_outer.proofs.TextLaws.{◌▸◌}
use Rattle.bus_shapes.proofs.heading.put_late.Goals as goal

pub returns : goal.returns
returns g c = c.put.ensures ▸ c.put_counted.ensures
