use Rattle.bus_outer.proofs.TextLaws.{◌▸◌}
use Rattle.bus_page.proofs.heading.put_two.Goals as goal

pub returns : goal.returns
returns g c = c.put_time.ensures ▸ c.put.ensures ▸ c.put_time-2.ensures
