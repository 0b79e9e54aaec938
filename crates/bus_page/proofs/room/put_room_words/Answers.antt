use Rattle.bus_outer.proofs.TextLaws.{◌▸◌}
use Rattle.bus_page.proofs.room.put_room_words.Goals as goal

pub returns : goal.returns
returns g c = c.put.ensures ▸ c.put_nanoseconds.ensures ▸ c.put-2.ensures
