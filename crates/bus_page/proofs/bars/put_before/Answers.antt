use Rattle.bus_outer.proofs.TextLaws.{◌▸◌}
use Rattle.bus_page.proofs.bars.put_before.Goals as goal

pub returns : goal.returns
returns g c = c.begin_words.ensures ▸ c.put_rule.ensures ▸ c.end_words.ensures
