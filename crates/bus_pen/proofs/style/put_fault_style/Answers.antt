use Rattle.bus_outer.proofs.TextLaws.{◌▸◌}
use Rattle.bus_pen.proofs.style.put_fault_style.Goals as goal

pub returns : goal.returns
returns g c = c.put.ensures ▸ c.put_rule.ensures ▸ c.put-2.ensures
