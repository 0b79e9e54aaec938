use Rattle.bus_clocks.proofs.GrowingAlone.{joining_is_orderly}
use Rattle.bus_clocks.proofs.laws.joining_is_orderly.Goals as goal

pub returns : goal.returns
returns c = joining_is_orderly
