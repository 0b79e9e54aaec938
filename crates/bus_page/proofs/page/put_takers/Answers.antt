use Rattle.bus_outer.proofs.TextLaws.{◌▸◌}
use Rattle.bus_page.proofs.page.put_takers.Goals as goal

pub returns : goal.returns
returns g c = c.put_section.ensures ▸ c.put_matrix.ensures
