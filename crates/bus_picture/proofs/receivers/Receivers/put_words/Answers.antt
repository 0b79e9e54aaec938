use Rattle.bus_outer.proofs.TextLaws.{◌▸◌}
use Rattle.bus_picture.proofs.receivers.Receivers.put_words.Goals as goal

pub returns : goal.returns
returns g c = c.put.ensures ▸ c.put_numbers.ensures
