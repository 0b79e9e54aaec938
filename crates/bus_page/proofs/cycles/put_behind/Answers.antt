use Rattle.bus_outer.proofs.TextLaws.{◌▸◌}
use Rattle.bus_page.proofs.cycles.put_behind.Goals as goal

pub returns : goal.returns
returns g c = c.put_axes.ensures ▸ c.put_spare.ensures ▸ c.put_joins.ensures ▸ c.put_interval.ensures
