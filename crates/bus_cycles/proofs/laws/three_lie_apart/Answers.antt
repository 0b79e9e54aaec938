use Rattle.bus_cycles.proofs.ApartLemmas.{lie_apart, three_kept}
use Rattle.bus_cycles.proofs.laws.three_lie_apart.Goals as goal

pub returns-clause-apart : goal.returns-clause-apart
returns-clause-apart c = lie_apart

pub returns-clause-kept : goal.returns-clause-kept
returns-clause-kept c = three_kept
