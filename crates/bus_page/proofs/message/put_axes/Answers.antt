use Rattle.bus_outer.proofs.TextLaws.{◌▸◌}
use Rattle.bus_page.proofs.message.put_axes.Goals as goal

pub returns : goal.returns
returns g c = c.put_axis.ensures ▸ c.put_axis-2.ensures
