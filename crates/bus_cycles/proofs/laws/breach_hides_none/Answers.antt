use Rattle.bus_cycles.proofs.ApartLemmas.{hides_none}
use Rattle.bus_cycles.proofs.laws.breach_hides_none.Goals as goal

pub returns : goal.returns
returns c = hides_none
