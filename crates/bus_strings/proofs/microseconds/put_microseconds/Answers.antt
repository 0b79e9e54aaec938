use Rattle.bus_outer.proofs.TextLaws.{◌▸◌}
use Rattle.bus_strings.proofs.microseconds.put_microseconds.Goals as goal

pub returns : goal.returns
returns g c =
    c.put_number.ensures ▸ c.put_half.ensures
