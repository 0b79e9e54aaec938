use Rattle.bus_outer.proofs.TextLaws.{adds_then}
use Rattle.bus_findings.specs.Texts.{judgement_lines}
use Rattle.bus_findings.proofs.lines.put_judgement.Goals as goal

pub returns : goal.returns
unfolding judgement_lines
returns g c = search adds_then depth 40
