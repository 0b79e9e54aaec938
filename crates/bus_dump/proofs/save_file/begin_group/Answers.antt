use Rattle.bus_outer.proofs.TextLaws.{◌▸◌}
use Rattle.bus_dump.proofs.save_file.begin_group.Goals as goal

pub returns : goal.returns
returns g c = c.put_group_mark.ensures ▸ c.put.ensures ▸ c.put_byte.ensures
