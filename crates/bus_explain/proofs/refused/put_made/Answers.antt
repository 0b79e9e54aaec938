use Rattle.bus_outer.proofs.TextLaws.{◌▸◌}
use Rattle.bus_explain.proofs.refused.put_made.Goals as goal

pub returns : goal.returns
returns g c = c.say.ensures ▸ c.put_table.ensures
