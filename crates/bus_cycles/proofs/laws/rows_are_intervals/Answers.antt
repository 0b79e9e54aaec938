use Rattle.bus_cycles.proofs.RowLemmas.{intervals}
use Rattle.bus_cycles.proofs.laws.rows_are_intervals.Goals as goal

pub returns : goal.returns
returns c = intervals
