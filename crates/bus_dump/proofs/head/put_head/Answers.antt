use Rattle.bus_outer.proofs.TextLaws.{◌▸◌}
use Rattle.bus_dump.proofs.head.put_head.Goals as goal

pub returns : goal.returns
returns g c = c.put.ensures ▸ c.put_verdict.ensures ▸ c.put-2.ensures
