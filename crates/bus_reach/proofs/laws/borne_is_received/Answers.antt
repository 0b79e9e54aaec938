use Rattle.bus_reach.proofs.ReceivingLemmas.{aperiodic_is_received, periodic_is_received, aperiodic_is_later, periodic_is_later}
use Rattle.bus_reach.proofs.laws.borne_is_received.Goals as goal

pub returns-clause-aperiodic : goal.returns-clause-aperiodic
returns-clause-aperiodic c = aperiodic_is_received c.accepted_is_closed.ensures c.borne_is_closed.ensures

pub returns-clause-periodic : goal.returns-clause-periodic
returns-clause-periodic c = periodic_is_received c.accepted_is_closed.ensures c.periodic_borne_is_closed.ensures

pub returns-clause-aperiodic_later : goal.returns-clause-aperiodic_later
returns-clause-aperiodic_later c = aperiodic_is_later c.borne_is_closed.ensures

pub returns-clause-periodic_later : goal.returns-clause-periodic_later
returns-clause-periodic_later c = periodic_is_later c.periodic_borne_is_closed.ensures
