use Rattle.bus_outer.proofs.TextLaws.{◌▸◌}
use Rattle.bus_picture.proofs.starts.put_start.Goals as goal

pub returns : goal.returns
returns g c = c.put_last.ensures ▸ c.put_gap_words.ensures
