use Rattle.bus_outer.proofs.TextLaws.{◌▸◌}
use Rattle.bus_explain.proofs.senders.put_in_turns.Goals as goal

pub returns : goal.returns
returns g c = c.say.ensures ▸ c.put_turns.ensures
