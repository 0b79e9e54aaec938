use Rattle.bus_outer.proofs.TextLaws.{◌▸◌}
use Rattle.bus_shapes.proofs.heading.put_periodic.Goals as goal

pub returns : goal.returns
returns g c =
    c.put.ensures ▸ c.put_parted.ensures ▸ c.put-2.ensures ▸ c.put_parted_microseconds.ensures ▸ c.put_microseconds_unit.ensures ▸ c.put-3.ensures
