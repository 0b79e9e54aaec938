use Rattle.bus_outer.proofs.TextLaws.{◌▸◌}
use Rattle.bus_page.proofs.latencies.put_count.Goals as goal

pub returns : goal.returns
returns g c = c.put_number.ensures ▸ c.put.ensures ▸ c.put_number-2.ensures
