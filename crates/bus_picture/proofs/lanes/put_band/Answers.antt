use Rattle.std.proofs.Common.{arith}
use Rattle.std.proofs.lemmas.Grind.{common_steps}
use Rattle.bus_picture.proofs.lanes.put_band.Goals as goal

pub returns-then-k-eq0 : goal.returns-then-k-eq0
returns-then-k-eq0 g c = grind (arith, common_steps)

pub returns-else-k-eq0 : goal.returns-else-k-eq0
returns-else-k-eq0 g c = grind (arith, common_steps)
