use Rattle.bus_outer.proofs.TextLaws.{◌▸◌}
use Rattle.bus_diagnosis.proofs.unfits.put_unfit.Goals as goal

pub returns : goal.returns
returns g c = c.say.ensures ▸ c.put_misfit.ensures
