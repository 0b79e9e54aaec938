use Rattle.std.proofs.Common.{arith}
use Rattle.std.proofs.lemmas.Grind.{common_steps}
use Rattle.bus_picture.proofs.starts.put_line.Goals as goal

pub returns-then-first : goal.returns-then-first
returns-then-first g c = grind (arith, common_steps)

pub returns-else-first : goal.returns-else-first
returns-else-first g c = grind (arith, common_steps)
