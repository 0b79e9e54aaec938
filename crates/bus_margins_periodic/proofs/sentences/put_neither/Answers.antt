use Rattle.bus_outer.proofs.TextLaws.{◌▸◌}
use Rattle.bus_margins_periodic.proofs.sentences.put_neither.Goals as goal

pub returns : goal.returns
returns g c = c.say.ensures ▸ c.put_first_lack.ensures
