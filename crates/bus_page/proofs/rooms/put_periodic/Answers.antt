use Rattle.bus_outer.proofs.TextLaws.{◌▸◌}
use Rattle.bus_page.proofs.rooms.put_periodic.Goals as goal

pub returns : goal.returns
returns g c = c.begin_rows.ensures ▸ c.put_periodic_rows.ensures ▸ c.end_picture.ensures
