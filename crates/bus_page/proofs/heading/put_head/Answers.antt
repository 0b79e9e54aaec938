use Rattle.bus_outer.proofs.TextLaws.{◌▸◌}
use Rattle.bus_page.proofs.heading.put_head.Goals as goal

pub returns : goal.returns
returns g c = c.begin_head.ensures ▸ c.put_verdict.ensures ▸ c.end_head.ensures
