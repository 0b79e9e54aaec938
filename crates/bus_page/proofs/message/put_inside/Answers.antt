use Rattle.bus_outer.proofs.TextLaws.{◌▸◌}
use Rattle.bus_page.proofs.message.put_inside.Goals as goal

pub returns : goal.returns
returns g c = c.begin_words.ensures ▸ c.put_inside_words.ensures ▸ c.end_words.ensures
