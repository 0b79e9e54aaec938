use Rattle.bus_cycles.proofs.MarkedLemmas.{faults_marked}
use Rattle.bus_cycles.proofs.laws.faults_are_marked.Goals as goal

pub returns : goal.returns
returns c = faults_marked
