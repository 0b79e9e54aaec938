use Rattle.bus_outer.proofs.TextLaws.{◌▸◌}
use Rattle.bus_page.proofs.message.put_box.Goals as goal

pub returns : goal.returns
returns g c = c.begin_painted.ensures ▸ c.put_sent.ensures ▸ c.end_painted.ensures
