use Rattle.std.proofs.Common.{arith}
use Rattle.std.proofs.lemmas.Grind.{common_steps}
use Rattle.bus_picture.proofs.load.put_tail.Goals as goal

pub returns-then-end-scale : goal.returns-then-end-scale
returns-then-end-scale g c = grind (arith, common_steps)

pub returns-else-scale-end : goal.returns-else-scale-end
returns-else-scale-end g c = grind (arith, common_steps)
