use Rattle.bus_drift.proofs.Pace.{pace_is_kept}
use Rattle.bus_drift.proofs.Greatest.{longest_is_round}
use Rattle.bus_drift.proofs.laws.pace_is_kept.Goals as goal

pub returns-clause-pace : goal.returns-clause-pace
returns-clause-pace c = pace_is_kept

pub returns-clause-longest : goal.returns-clause-longest
returns-clause-longest c = longest_is_round
