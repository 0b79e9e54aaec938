use Rattle.bus_schedule.proofs.Leaving.{gaps_are_left}
use Rattle.bus_schedule.proofs.laws.gaps_are_left.Goals as goal

pub returns : goal.returns
returns c = gaps_are_left
