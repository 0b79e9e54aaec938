use Rattle.bus_outer.proofs.TextLaws.{◌▸◌}
use Rattle.bus_pen.proofs.number.put_parted_microseconds.Goals as goal

pub returns : goal.returns
returns g c =
    c.put_parted.ensures ▸ c.put_half.ensures
