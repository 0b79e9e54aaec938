use Rattle.bus_cycles.proofs.RowLemmas.{drawn_last}
use Rattle.bus_cycles.proofs.laws.hatched_are_drawn_last.Goals as goal

pub returns : goal.returns
returns c = drawn_last
