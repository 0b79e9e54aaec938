use Rattle.bus_best.proofs.Grouped.{roomy_keeps_groups}
use Rattle.bus_best.proofs.laws.roomy_keeps_groups.Goals as goal

pub returns : goal.returns
returns c = roomy_keeps_groups
