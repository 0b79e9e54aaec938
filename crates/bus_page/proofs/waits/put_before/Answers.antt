use Rattle.bus_outer.proofs.TextLaws.{◌▸◌}
use Rattle.bus_page.proofs.waits.put_before.Goals as goal

pub returns : goal.returns
returns g c = c.begin_words.ensures ▸ c.put_terminal.ensures ▸ c.end_words.ensures
