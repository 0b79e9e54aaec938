use Rattle.std.proofs.Common.{arith}
use Rattle.std.proofs.lemmas.Grind.{common_steps}
use Rattle.bus_shapes.proofs.heading.put_faults.Goals as goal

pub returns-then-faults-eq1 : goal.returns-then-faults-eq1
returns-then-faults-eq1 g c = grind (arith, common_steps)

pub returns-else-faults-eq1 : goal.returns-else-faults-eq1
returns-else-faults-eq1 g c = grind (arith, common_steps)
