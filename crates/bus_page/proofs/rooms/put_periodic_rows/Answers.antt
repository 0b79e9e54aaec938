use Rattle.bus_outer.proofs.TextLaws.{◌▸◌}
use Rattle.bus_page.proofs.rooms.put_periodic_rows.Goals as goal

pub returns : goal.returns
returns g c = c.put_periodic_rule.ensures ▸ c.put_periodic_rule-2.ensures ▸ c.put_periodic_rule-3.ensures ▸ c.put_periodic_rule-4.ensures
