use Rattle.bus_outer.proofs.TextLaws.{ends_text}
use Rattle.bus_margins_periodic.proofs.writing.write_lines.Goals as goal

pub returns : goal.returns
returns g c = search ends_text depth 40
