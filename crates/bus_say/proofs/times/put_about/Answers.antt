use Rattle.bus_outer.proofs.TextLaws.{◌▸◌}
use Rattle.bus_say.proofs.times.put_about.Goals as goal

pub returns : goal.returns
returns g c = c.put.ensures ▸ c.put_number.ensures ▸ c.put_bit_times.ensures
