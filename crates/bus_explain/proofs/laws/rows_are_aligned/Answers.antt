use Rattle.bus_explain.proofs.RowLengths as laws
use Rattle.bus_explain.proofs.laws.rows_are_aligned.Goals as goal

pub returns : goal.returns
returns c = laws.rows_are_aligned
