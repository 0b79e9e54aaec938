use Rattle.bus_cable.proofs.HearingLaws.{hears_each, hears_in_order, clear_is_ungarbled}
use Rattle.bus_cable.proofs.laws.hearing_tells.Goals as goal

pub returns-clause-each : goal.returns-clause-each
returns-clause-each c = hears_each

pub returns-clause-order : goal.returns-clause-order
returns-clause-order c = hears_in_order

pub returns-clause-clear : goal.returns-clause-clear
returns-clause-clear c = clear_is_ungarbled
