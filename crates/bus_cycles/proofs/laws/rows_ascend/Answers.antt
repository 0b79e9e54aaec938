use Rattle.bus_cycles.proofs.AscendLemmas.{rows_ascend}
use Rattle.bus_cycles.proofs.laws.rows_ascend.Goals as goal

pub returns : goal.returns
returns c = rows_ascend
