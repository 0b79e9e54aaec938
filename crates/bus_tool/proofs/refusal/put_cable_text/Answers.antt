use Rattle.bus_outer.proofs.TextLaws.{◌▸◌}
use Rattle.bus_tool.proofs.refusal.put_cable_text.Goals as goal

pub returns : goal.returns
returns g c = c.put_numbered.ensures ▸ c.put_byte.ensures ▸ c.put_reason.ensures
