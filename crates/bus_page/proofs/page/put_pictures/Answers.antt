use Rattle.bus_outer.proofs.TextLaws.{◌▸◌}
use Rattle.bus_page.proofs.page.put_pictures.Goals as goal

pub returns : goal.returns
returns g c = c.put_cycle_picture.ensures ▸ c.put_limits.ensures ▸ c.put_rooms.ensures ▸ c.put_waiting.ensures ▸ c.put_ages.ensures ▸ c.put_takers.ensures
