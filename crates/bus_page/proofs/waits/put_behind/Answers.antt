use Rattle.bus_outer.proofs.TextLaws.{◌▸◌}
use Rattle.bus_page.proofs.waits.put_behind.Goals as goal

pub returns : goal.returns
returns g c = c.begin_words.ensures ▸ c.put_time.ensures ▸ c.end_words.ensures
