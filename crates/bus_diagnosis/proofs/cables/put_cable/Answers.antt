use Rattle.bus_outer.proofs.TextLaws.{◌▸◌}
use Rattle.bus_diagnosis.proofs.cables.put_cable.Goals as goal

pub returns : goal.returns
returns g c = c.say.ensures ▸ c.put_pair.ensures ▸ c.put_wake.ensures ▸ c.put_borne.ensures
