use Rattle.std.proofs.Common.{arith}
use Rattle.std.proofs.lemmas.Grind.{common_steps}
use Rattle.bus_picture.proofs.receivers.put_more.Goals as goal

pub returns-then-takes : goal.returns-then-takes
returns-then-takes g c = grind (arith, common_steps)

pub returns-else-takes : goal.returns-else-takes
returns-else-takes g c = grind (arith, common_steps)
