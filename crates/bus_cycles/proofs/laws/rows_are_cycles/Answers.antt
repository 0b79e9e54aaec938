use Rattle.bus_cycles.proofs.CycleLemmas.{cycles}
use Rattle.bus_cycles.proofs.laws.rows_are_cycles.Goals as goal

pub returns : goal.returns
returns c = cycles
