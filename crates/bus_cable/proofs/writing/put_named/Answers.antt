use Rattle.bus_outer.proofs.TextLaws.{◌▸◌}
use Rattle.bus_cable.proofs.writing.put_named.Goals as goal

pub returns : goal.returns
returns g c =
    c.put.ensures ▸ c.put_byte.ensures ▸ c.put_number.ensures ▸ c.put_byte-2.ensures ▸ c.put_number-2.ensures ▸ c.put_byte-3.ensures
