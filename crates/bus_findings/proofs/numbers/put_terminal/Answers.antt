use Rattle.bus_outer.proofs.TextLaws.{adds_then}
use Rattle.bus_findings.proofs.numbers.put_terminal.Goals as goal

pub returns : goal.returns
returns g c = search adds_then depth 40
