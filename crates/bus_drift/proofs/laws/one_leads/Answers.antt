use Rattle.bus_drift.proofs.Leading.{one_leads}
use Rattle.bus_drift.proofs.Greatest.{offsets_are_least}
use Rattle.bus_drift.proofs.laws.one_leads.Goals as goal

pub returns-clause-lead : goal.returns-clause-lead
returns-clause-lead c = one_leads

pub returns-clause-least : goal.returns-clause-least
returns-clause-least c = offsets_are_least
