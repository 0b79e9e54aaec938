use Rattle.bus_outer.proofs.TextLaws.{◌▸◌}
use Rattle.bus_page.proofs.heading.put_cycle_figure.Goals as goal

pub returns : goal.returns
returns g c = c.begin_figure.ensures ▸ c.put_cycle.ensures ▸ c.end_figure.ensures
