use Rattle.bus_outer.proofs.TextLaws.{◌▸◌}
use Rattle.bus_shapes.proofs.heading.put_short_cycle.Goals as goal

pub returns : goal.returns
returns g c =
    c.put.ensures ▸ c.put_parted.ensures ▸ c.put-2.ensures ▸ c.put_parted-2.ensures
