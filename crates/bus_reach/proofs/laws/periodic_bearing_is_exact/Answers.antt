use Rattle.bus_reach.proofs.Keeping.{cables_delay}
use Rattle.bus_reach.proofs.PeriodicExact.{bearing_is_exact, not_borne_breaks}
use Rattle.bus_reach.proofs.laws.periodic_bearing_is_exact.Goals as goal

pub returns-clause-breaks : goal.returns-clause-breaks
returns-clause-breaks c = not_borne_breaks c.witnesses_have_schedules.ensures.even

pub returns-clause-cables : goal.returns-clause-cables
returns-clause-cables c = cables_delay

pub returns-clause-exact : goal.returns-clause-exact
returns-clause-exact c = bearing_is_exact c.witnesses_have_schedules.ensures.even c.periodic_borne_is_closed.ensures
