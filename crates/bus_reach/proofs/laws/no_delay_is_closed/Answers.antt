use Rattle.bus_reach.proofs.Plain.{no_delay_is_closed}
use Rattle.bus_reach.proofs.laws.no_delay_is_closed.Goals as goal

pub returns : goal.returns
returns c = no_delay_is_closed
