use Rattle.bus_outer.proofs.TextLaws.{◌▸◌}
use Rattle.bus_pen.proofs.class.put_rule.Goals as goal

pub returns : goal.returns
returns g c =
    c.put_byte.ensures ▸ c.put_name.ensures ▸ c.put_byte-2.ensures ▸ c.put_look.ensures ▸ c.put.ensures
