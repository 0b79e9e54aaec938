use Rattle.bus_outer.proofs.TextLaws.{◌▸◌}
use Rattle.bus_dump.proofs.save_file.put_label_group.Goals as goal

pub returns : goal.returns
returns g c = c.begin_group.ensures ▸ c.put.ensures ▸ c.put_labels.ensures ▸ c.end_group.ensures
