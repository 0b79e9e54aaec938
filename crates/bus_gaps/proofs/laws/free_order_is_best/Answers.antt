use Rattle.bus_gaps.proofs.Free.{free_order_is_best}
use Rattle.bus_gaps.proofs.laws.free_order_is_best.Goals as goal

pub returns : goal.returns
returns c = free_order_is_best
