use Rattle.bus_advice.proofs.Missing.{none_missing, start_there}
use Rattle.bus_advice.proofs.laws.none_missing.Goals as goal

pub returns-clause-refused : goal.returns-clause-refused
returns-clause-refused c = none_missing

pub returns-clause-accepted : goal.returns-clause-accepted
returns-clause-accepted c table valid accepted = start_there table accepted
