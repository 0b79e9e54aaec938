use Rattle.bus_outer.proofs.TextLaws.{◌▸◌}
use Rattle.bus_page.proofs.waits.put_waits_legend.Goals as goal

pub returns : goal.returns
returns g c = c.put.ensures ▸ c.put_time.ensures ▸ c.put-2.ensures
