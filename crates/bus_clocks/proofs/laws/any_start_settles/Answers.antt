use Rattle.bus_clocks.proofs.Orders.{any_start_settles}
use Rattle.bus_clocks.proofs.laws.any_start_settles.Goals as goal

pub returns : goal.returns
returns c = any_start_settles
