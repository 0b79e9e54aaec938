use Rattle.bus_outer.proofs.TextLaws.{◌▸◌}
use Rattle.bus_dump.proofs.opening.put_opening.Goals as goal

pub returns : goal.returns
returns g c =
    let zoomed = rw c.zoom.ensures at c.put_number.ensures in
    c.put.ensures ▸ zoomed ▸ c.put_byte.ensures ▸ c.put_marker.ensures ▸ c.put_byte-2.ensures ▸ c.put_beginning.ensures
