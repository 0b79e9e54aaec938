use Rattle.bus_cycles.proofs.BreachLemmas.{last_marked}
use Rattle.bus_cycles.proofs.laws.the_last_row_is_marked.Goals as goal

pub returns : goal.returns
returns c = last_marked
