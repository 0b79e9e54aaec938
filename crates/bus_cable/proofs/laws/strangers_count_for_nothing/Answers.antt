use Rattle.bus_cable.proofs.Strangers.{strangers_send_nothing, strangers_hear_nothing, strangers_are_unwritten}
use Rattle.bus_cable.proofs.laws.strangers_count_for_nothing.Goals as goal

pub returns-clause-sent : goal.returns-clause-sent
returns-clause-sent c = strangers_send_nothing

pub returns-clause-heard : goal.returns-clause-heard
returns-clause-heard c = strangers_hear_nothing

pub returns-clause-text : goal.returns-clause-text
returns-clause-text c = strangers_are_unwritten
