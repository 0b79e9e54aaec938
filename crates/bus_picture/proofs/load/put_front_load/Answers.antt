use Rattle.bus_outer.proofs.TextLaws.{◌▸◌}
use Rattle.bus_picture.proofs.load.put_front_load.Goals as goal

pub returns : goal.returns
returns g c = c.begin_words.ensures ▸ (c.put_share_to.ensures ▸ c.put.ensures) ▸ c.end_words.ensures
