use Rattle.bus_cycles.proofs.LastEndLemmas.{last_ends_bound}
use Rattle.bus_cycles.proofs.laws.last_ends_are_of_rows.Goals as goal

pub returns : goal.returns
returns c = last_ends_bound
