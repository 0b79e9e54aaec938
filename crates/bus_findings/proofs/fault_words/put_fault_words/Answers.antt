use Rattle.bus_outer.proofs.TextLaws.{adds_then}
use Rattle.bus_findings.specs.Texts.{fault_words}
use Rattle.bus_findings.proofs.fault_words.put_fault_words.Goals as goal

pub returns : goal.returns
unfolding fault_words
returns g c = search adds_then depth 40
