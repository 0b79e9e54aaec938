use Rattle.bus_cycles.proofs.DrawnLemmas.{kept_drawn}
use Rattle.bus_cycles.proofs.laws.kept_are_drawn.Goals as goal

pub returns : goal.returns
returns c = kept_drawn
