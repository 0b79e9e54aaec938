use Rattle.bus_outer.proofs.TextLaws.{◌▸◌}
use Rattle.bus_page.proofs.room.put_rule.Goals as goal

pub returns : goal.returns
returns g c = c.put_words.ensures ▸ c.put_told.ensures
