use Rattle.bus_outer.proofs.TextLaws.{◌▸◌}
use Rattle.bus_pen.proofs.style.put_style.Goals as goal

pub returns : goal.returns
returns g c =
    c.put.ensures ▸ c.put-2.ensures ▸ c.put_rules.ensures ▸ c.put-3.ensures ▸ c.put-4.ensures ▸ c.put-5.ensures
