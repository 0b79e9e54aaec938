use Rattle.bus_findings.proofs.LackLemmas.{interval_is, gap_is, sync_is}
use Rattle.bus_findings.proofs.DueLemmas.{due_first, not_due, due_told, lateness_is}
use Rattle.bus_findings.proofs.laws.findings_are_exact.Goals as goal

pub returns-clause-interval : goal.returns-clause-interval
returns-clause-interval c = interval_is

pub returns-clause-gap : goal.returns-clause-gap
returns-clause-gap c = gap_is

pub returns-clause-sync : goal.returns-clause-sync
returns-clause-sync c = sync_is

pub returns-clause-due : goal.returns-clause-due
returns-clause-due c = due_first

pub returns-clause-not_due : goal.returns-clause-not_due
returns-clause-not_due c = not_due

pub returns-clause-told : goal.returns-clause-told
returns-clause-told c = due_told

pub returns-clause-late : goal.returns-clause-late
returns-clause-late c = lateness_is
