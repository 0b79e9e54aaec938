use Rattle.bus_outer.proofs.TextLaws.{◌▸◌}
use Rattle.bus_page.proofs.cycles.put_number_words.Goals as goal

pub returns : goal.returns
returns g c = c.begin_words.ensures ▸ (c.put.ensures ▸ c.put_number.ensures) ▸ c.end_words.ensures
