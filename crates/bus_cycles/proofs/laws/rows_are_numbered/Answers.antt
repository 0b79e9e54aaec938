use Rattle.bus_cycles.proofs.CycleLemmas.{numbered}
use Rattle.bus_cycles.proofs.laws.rows_are_numbered.Goals as goal

pub returns : goal.returns
returns c = numbered
