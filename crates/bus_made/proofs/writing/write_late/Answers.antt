use Rattle.bus_outer.proofs.TextLaws.{ends_text}
use Rattle.bus_made.proofs.writing.write_late.Goals as goal

pub returns : goal.returns
returns g c = search ends_text depth 40
