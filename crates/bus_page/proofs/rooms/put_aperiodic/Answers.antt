use Rattle.bus_outer.proofs.TextLaws.{◌▸◌}
use Rattle.bus_page.proofs.rooms.put_aperiodic.Goals as goal

pub returns : goal.returns
returns g c = c.begin_rows.ensures ▸ c.put_aperiodic_rows.ensures ▸ c.end_picture.ensures
