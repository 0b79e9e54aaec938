use Rattle.bus_reach.proofs.Neighbours.{neighbours_tell_bearing}
use Rattle.bus_reach.proofs.laws.neighbours_tell_bearing.Goals as goal

pub returns : goal.returns
returns c = neighbours_tell_bearing
