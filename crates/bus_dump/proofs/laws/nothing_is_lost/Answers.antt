use Rattle.bus_dump.proofs.NothingLostLemmas.{nothing_lost}
use Rattle.bus_dump.proofs.laws.nothing_is_lost.Goals as goal

pub returns : goal.returns
returns c = nothing_lost
