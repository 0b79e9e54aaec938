use Rattle.bus_schedule.proofs.RunLemmas.{closed_is_orderly}
use Rattle.bus_schedule.proofs.laws.closed_is_orderly.Goals as goal

pub returns : goal.returns
returns c = closed_is_orderly
