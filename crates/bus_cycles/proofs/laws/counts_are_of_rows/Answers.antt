use Rattle.bus_cycles.proofs.CycleLemmas.{counted}
use Rattle.bus_cycles.proofs.laws.counts_are_of_rows.Goals as goal

pub returns : goal.returns
returns c = counted
