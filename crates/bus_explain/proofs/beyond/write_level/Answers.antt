use Rattle.bus_outer.proofs.TextLaws.{ends_text}
use Rattle.bus_explain.proofs.beyond.write_level.Goals as goal

pub returns : goal.returns
returns g c = search ends_text depth 40
