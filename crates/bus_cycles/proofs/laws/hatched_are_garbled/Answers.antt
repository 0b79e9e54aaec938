use Rattle.bus_cycles.proofs.RowLemmas.{hatched}
use Rattle.bus_cycles.proofs.laws.hatched_are_garbled.Goals as goal

pub returns : goal.returns
returns c = hatched
