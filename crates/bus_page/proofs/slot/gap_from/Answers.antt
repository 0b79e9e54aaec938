use Rattle.std.proofs.Common.{arith}
use Rattle.std.proofs.lemmas.Grind.{common_steps}
use Rattle.bus_page.proofs.slot.gap_from.Goals as goal

pub returns-then-end-ti-clause-value : goal.returns-then-end-ti-clause-value
returns-then-end-ti-clause-value c = grind (arith, common_steps)

pub returns-then-end-ti-clause-short : goal.returns-then-end-ti-clause-short
returns-then-end-ti-clause-short c = grind (arith, common_steps)

pub returns-else-end-ti-clause-value : goal.returns-else-end-ti-clause-value
returns-else-end-ti-clause-value c = grind (arith, common_steps)

pub returns-else-end-ti-clause-short : goal.returns-else-end-ti-clause-short
returns-else-end-ti-clause-short c = grind (arith, common_steps)
