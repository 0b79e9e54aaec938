use Rattle.bus_cycles.proofs.RowLemmas.{partition}
use Rattle.bus_cycles.proofs.laws.rows_are_a_partition.Goals as goal

pub returns : goal.returns
returns c = partition
