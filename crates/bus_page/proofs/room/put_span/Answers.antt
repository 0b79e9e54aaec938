use Rattle.bus_outer.proofs.TextLaws.{◌▸◌}
use Rattle.bus_page.proofs.room.put_span.Goals as goal

pub returns : goal.returns
returns g c = c.put_have.ensures ▸ c.put_need.ensures ▸ c.put_behind.ensures
