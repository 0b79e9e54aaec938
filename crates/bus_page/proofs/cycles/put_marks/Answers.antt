use Rattle.bus_outer.proofs.TextLaws.{◌▸◌}
use Rattle.bus_page.proofs.cycles.put_marks.Goals as goal

pub returns : goal.returns
returns g c = c.put_spare_words.ensures ▸ c.put_gap_words.ensures ▸ c.put_more.ensures
