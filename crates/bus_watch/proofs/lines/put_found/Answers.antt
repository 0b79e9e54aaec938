use Rattle.bus_outer.proofs.TextLaws.{adds_then}
use Rattle.bus_watch.specs.Texts.{found_lines}
use Rattle.bus_watch.proofs.lines.put_found.Goals as goal

pub returns : goal.returns
unfolding found_lines
returns g c = search adds_then depth 40
