use Rattle.bus_outer.proofs.TextLaws.{◌▸◌}
use Rattle.bus_explain.proofs.senders.put_at_offsets.Goals as goal

pub returns : goal.returns
returns g c = c.say.ensures ▸ c.put_offsets.ensures
