use Rattle.bus_reach.proofs.CollideLemmas.{some_never_part}
use Rattle.bus_reach.proofs.laws.some_never_part.Goals as goal

pub returns : goal.returns
returns c = some_never_part
