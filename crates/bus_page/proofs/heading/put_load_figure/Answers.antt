use Rattle.bus_outer.proofs.TextLaws.{◌▸◌}
use Rattle.bus_page.proofs.heading.put_load_figure.Goals as goal

pub returns : goal.returns
returns g c = c.begin_figure.ensures ▸ c.put_load.ensures ▸ c.end_figure.ensures
