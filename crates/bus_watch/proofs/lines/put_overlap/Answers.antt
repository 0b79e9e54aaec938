use Rattle.bus_outer.proofs.TextLaws.{adds_then}
use Rattle.bus_watch.proofs.lines.put_overlap.Goals as goal

pub returns : goal.returns
returns g c = search adds_then depth 40
