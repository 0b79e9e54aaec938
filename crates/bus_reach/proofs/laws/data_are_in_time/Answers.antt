use Rattle.bus_reach.proofs.LatencyLemmas.{aperiodic_in_time, periodic_in_time}
use Rattle.bus_reach.proofs.laws.data_are_in_time.Goals as goal

pub returns-clause-aperiodic : goal.returns-clause-aperiodic
returns-clause-aperiodic c = aperiodic_in_time c.borne_is_closed.ensures

pub returns-clause-periodic : goal.returns-clause-periodic
returns-clause-periodic c = periodic_in_time c.periodic_borne_is_closed.ensures
