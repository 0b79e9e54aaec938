use Rattle.bus_outer.proofs.TextLaws.{◌▸◌}
use Rattle.bus_page.proofs.heading.put_verdict_line.Goals as goal

pub returns : goal.returns
returns g c = c.put.ensures ▸ c.put_verdict.ensures ▸ c.put-2.ensures
