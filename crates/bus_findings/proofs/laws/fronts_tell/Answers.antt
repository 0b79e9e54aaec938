use Rattle.bus_findings.proofs.FrontLemmas.{fronts_tell}
use Rattle.bus_findings.proofs.laws.fronts_tell.Goals as goal

pub returns : goal.returns
returns c = fronts_tell
