use Rattle.bus_outer.proofs.TextLaws.{◌▸◌}
use Rattle.bus_page.proofs.rooms.put_aperiodic_rows.Goals as goal

pub returns : goal.returns
returns g c = c.put_aperiodic_rule.ensures ▸ c.put_aperiodic_rule-2.ensures ▸ c.put_aperiodic_rule-3.ensures ▸ c.put_aperiodic_rule-4.ensures ▸ c.put_aperiodic_rule-5.ensures ▸ c.put_aperiodic_rule-6.ensures ▸ c.put_aperiodic_rule-7.ensures ▸ c.put_aperiodic_rule-8.ensures
