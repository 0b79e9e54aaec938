use Rattle.bus_cycles.proofs.MarkedLemmas.{none_marked}
use Rattle.bus_cycles.proofs.laws.no_fault_is_marked.Goals as goal

pub returns : goal.returns
returns c = none_marked
