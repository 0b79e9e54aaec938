use Rattle.bus_findings.proofs.EndLemmas.{silent_is_due, not_silent_is_not_due}
use Rattle.bus_findings.proofs.laws.silences_are_told.Goals as goal

pub returns-clause-due : goal.returns-clause-due
returns-clause-due c = silent_is_due

pub returns-clause-not_due : goal.returns-clause-not_due
returns-clause-not_due c = not_silent_is_not_due
