use Rattle.bus_clocks.proofs.Starts.{real_clocks_keep_order}
use Rattle.bus_clocks.proofs.laws.real_clocks_keep_order.Goals as goal

pub returns : goal.returns
returns c = real_clocks_keep_order
