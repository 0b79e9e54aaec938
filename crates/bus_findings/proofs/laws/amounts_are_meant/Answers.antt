use Rattle.bus_findings.proofs.MeaningLemmas.{file_amounts_meant, file_gap_meant}
use Rattle.bus_findings.proofs.laws.amounts_are_meant.Goals as goal

pub returns-clause-next : goal.returns-clause-next
returns-clause-next c = file_amounts_meant c.file_amounts_are_true.ensures.next

pub returns-clause-gap : goal.returns-clause-gap
returns-clause-gap c = file_gap_meant c.file_amounts_are_true.ensures.gap
