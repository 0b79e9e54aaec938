use Rattle.bus_schedule.proofs.FineGaps.{accepted_bears_none}
use Rattle.bus_schedule.proofs.RunLemmas.{borne_gaps_are_closed}
use Rattle.bus_schedule.proofs.laws.borne_gaps_are_closed.Goals as goal

pub returns-clause-closed : goal.returns-clause-closed
returns-clause-closed c = borne_gaps_are_closed

pub returns-clause-none : goal.returns-clause-none
returns-clause-none c = accepted_bears_none
