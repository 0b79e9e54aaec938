use Rattle.bus_findings.proofs.JustLemmas.{keepers_unblamed, amounts_told, gap_told, late_told}
use Rattle.bus_findings.proofs.laws.faults_are_just.Goals as goal

pub returns-clause-unblamed : goal.returns-clause-unblamed
returns-clause-unblamed c = keepers_unblamed c.findings_are_just.ensures

pub returns-clause-amounts : goal.returns-clause-amounts
returns-clause-amounts c = amounts_told

pub returns-clause-gap : goal.returns-clause-gap
returns-clause-gap c = gap_told

pub returns-clause-late : goal.returns-clause-late
returns-clause-late c = late_told
