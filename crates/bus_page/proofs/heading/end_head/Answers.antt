use Rattle.bus_outer.proofs.TextLaws.{◌▸◌}
use Rattle.bus_page.proofs.heading.end_head.Goals as goal

pub returns : goal.returns
returns g c = c.put.ensures ▸ c.put_style.ensures ▸ c.put-2.ensures
