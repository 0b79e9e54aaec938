use Rattle.bus_cable.proofs.Orderly.{borne_is_orderly, periodic_borne_is_orderly}
use Rattle.bus_cable.proofs.laws.borne_is_orderly.Goals as goal

pub returns-clause-aperiodic : goal.returns-clause-aperiodic
returns-clause-aperiodic c = borne_is_orderly c.one_cable_list.ensures.once c.borne_is_closed.ensures c.hearing_tells.ensures.clear

pub returns-clause-periodic : goal.returns-clause-periodic
returns-clause-periodic c = periodic_borne_is_orderly c.one_cable_list.ensures.once c.periodic_borne_is_closed.ensures c.hearing_tells.ensures.clear
