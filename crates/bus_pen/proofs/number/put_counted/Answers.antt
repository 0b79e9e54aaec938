use Rattle.bus_outer.proofs.TextLaws.{◌▸◌}
use Rattle.bus_pen.proofs.number.put_counted.Goals as goal

pub returns : goal.returns
returns g c =
    c.put_parted.ensures ▸ c.put_byte.ensures ▸ c.put.ensures ▸ c.put_ending.ensures
