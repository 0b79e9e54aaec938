use Rattle.bus_exact.proofs.Lasting.{long_hands_last}
use Rattle.bus_exact.proofs.Settled.{any_start_settles_on_cable}
use Rattle.bus_exact.proofs.laws.any_start_settles_on_cable.Goals as goal

pub returns-clause-settles : goal.returns-clause-settles
returns-clause-settles c = any_start_settles_on_cable

pub returns-clause-long : goal.returns-clause-long
returns-clause-long c = long_hands_last
