use Rattle.std.proofs.Common.{arith}
use Rattle.std.proofs.lemmas.Grind.{common_steps}
use Rattle.bus_page.proofs.foot.put_byte_count.Goals as goal

pub returns-then-count-eq1 : goal.returns-then-count-eq1
returns-then-count-eq1 g c = grind (arith, common_steps)

pub returns-else-count-eq1 : goal.returns-else-count-eq1
returns-else-count-eq1 g c = grind (arith, common_steps)
