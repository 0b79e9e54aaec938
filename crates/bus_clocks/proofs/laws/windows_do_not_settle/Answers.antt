use Rattle.bus_clocks.proofs.Wandering.{unsettled}
use Rattle.bus_clocks.proofs.laws.windows_do_not_settle.Goals as goal

pub returns : goal.returns
returns c = unsettled
