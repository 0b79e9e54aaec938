use Rattle.bus_reach.proofs.ReceivingLemmas.{matches_are_received}
use Rattle.bus_reach.proofs.laws.matches_are_received.Goals as goal

pub returns : goal.returns
returns c = matches_are_received c.accepted_is_closed.ensures
