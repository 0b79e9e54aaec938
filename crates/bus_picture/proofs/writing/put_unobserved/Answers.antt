use Rattle.std.proofs.Common.{arith}
use Rattle.std.proofs.lemmas.Grind.{common_steps}
use Rattle.bus_picture.proofs.writing.put_unobserved.Goals as goal

pub returns-then-horizon-scale : goal.returns-then-horizon-scale
returns-then-horizon-scale g c = grind (arith, common_steps)

pub returns-else-horizon-scale : goal.returns-else-horizon-scale
returns-else-horizon-scale g c = grind (arith, common_steps)
