use Rattle.bus_outer.proofs.TextLaws.{◌▸◌}
use Rattle.bus_page.proofs.interval.put_slot.Goals as goal

pub returns : goal.returns
returns g c = c.put_gap.ensures ▸ c.put_message.ensures
