use Rattle.bus_outer.proofs.TextLaws.{ends_text}
use Rattle.bus_tool.proofs.tolerance.write_fields.Goals as goal

pub returns : goal.returns
returns g c = search ends_text depth 40
