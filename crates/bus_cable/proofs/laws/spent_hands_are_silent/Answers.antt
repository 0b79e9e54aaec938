use Rattle.bus_cable.proofs.Spent.{spent_hands_are_silent}
use Rattle.bus_cable.proofs.laws.spent_hands_are_silent.Goals as goal

pub returns : goal.returns
returns c = spent_hands_are_silent
