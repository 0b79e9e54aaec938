use Rattle.bus_outer.proofs.TextLaws.{◌▸◌}
use Rattle.bus_view.proofs.refusal.put_doubled.Goals as goal

pub returns : goal.returns
returns g c = c.put.ensures ▸ c.put_number.ensures ▸ c.put-2.ensures
