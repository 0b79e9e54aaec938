use Rattle.bus_outer.proofs.TextLaws.{◌▸◌}
use Rattle.bus_explain.proofs.accepted.put_load_line.Goals as goal

pub returns : goal.returns
returns g c =
    c.say.ensures ▸ c.put_load.ensures ▸ c.say-2.ensures
