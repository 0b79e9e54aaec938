use Rattle.bus_cycles.proofs.ApartLemmas.{fault_hides}
use Rattle.bus_cycles.proofs.laws.fault_hides_none.Goals as goal

pub returns : goal.returns
returns c = fault_hides
