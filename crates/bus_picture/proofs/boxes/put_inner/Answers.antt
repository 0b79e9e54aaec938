use Rattle.std.proofs.Common.{arith}
use Rattle.std.proofs.lemmas.Grind.{common_steps}
use Rattle.bus_picture.proofs.boxes.put_inner.Goals as goal

pub returns-else-cluster-eq1 : goal.returns-else-cluster-eq1
returns-else-cluster-eq1 g c = grind (arith, common_steps)

pub returns-then-not-is_narrow : goal.returns-then-not-is_narrow
returns-then-not-is_narrow g c = grind (arith, common_steps)
