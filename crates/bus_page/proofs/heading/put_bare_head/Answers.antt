use Rattle.bus_outer.proofs.TextLaws.{◌▸◌}
use Rattle.bus_page.proofs.heading.put_bare_head.Goals as goal

pub returns : goal.returns
returns g c = c.begin_head.ensures ▸ c.put.ensures ▸ c.end_head.ensures
