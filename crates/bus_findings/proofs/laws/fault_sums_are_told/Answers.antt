use Rattle.bus_findings.proofs.SumLemmas.{sum_is}
use Rattle.bus_findings.proofs.laws.fault_sums_are_told.Goals as goal

pub returns : goal.returns
returns c = sum_is
