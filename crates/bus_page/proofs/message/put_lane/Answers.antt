use Rattle.bus_outer.proofs.TextLaws.{◌▸◌}
use Rattle.bus_page.proofs.message.put_lane.Goals as goal

pub returns : goal.returns
returns g c = c.put_words.ensures ▸ (c.begin_words.ensures ▸ c.put_number.ensures ▸ c.end_words.ensures)
