use Rattle.bus_outer.proofs.TextLaws.{◌▸◌}
use Rattle.bus_page.proofs.message.put_stretch.Goals as goal

pub returns : goal.returns
returns g c = c.put_gap.ensures ▸ c.put_message.ensures
