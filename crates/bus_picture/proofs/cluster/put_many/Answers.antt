use Rattle.bus_outer.proofs.TextLaws.{◌▸◌}
use Rattle.bus_picture.proofs.cluster.put_many.Goals as goal

pub returns : goal.returns
returns g c =
    c.put_number.ensures ▸ c.put.ensures ▸ c.put_number-2.ensures ▸ c.put-2.ensures ▸ c.put_number-3.ensures ▸ c.put_garbled.ensures
