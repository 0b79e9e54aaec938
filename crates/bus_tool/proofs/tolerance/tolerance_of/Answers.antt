use Rattle.bus_tool.proofs.ToleranceLemmas.{found}
use Rattle.bus_tool.proofs.tolerance.tolerance_of.Goals as goal

pub returns : goal.returns
returns c = found c.args.table.now c.tolerance.result c.table_is_valid.ensures c.tolerance.ensures.alone c.tolerance.ensures.greatest
