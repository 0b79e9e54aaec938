use Rattle.bus_reach.proofs.LimitLaws.{limits_tell_bearing}
use Rattle.bus_reach.proofs.laws.limits_tell_bearing.Goals as goal

pub returns : goal.returns
returns c = limits_tell_bearing
