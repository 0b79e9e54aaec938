use Rattle.bus_outer.proofs.TextLaws.{◌▸◌}
use Rattle.bus_dump.proofs.writing.put_first.Goals as goal

pub returns : goal.returns
returns g c = c.put_stamp.ensures ▸ c.put.ensures ▸ c.put_lines.ensures ▸ c.put-2.ensures
