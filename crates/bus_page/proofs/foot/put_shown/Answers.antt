use Rattle.std.proofs.Common.{arith}
use Rattle.std.proofs.lemmas.Grind.{common_steps}
use Rattle.bus_page.proofs.foot.put_shown.Goals as goal

pub returns-then-byte-eq38 : goal.returns-then-byte-eq38
returns-then-byte-eq38 g c = grind (arith, common_steps)

pub returns-then-byte-eq60 : goal.returns-then-byte-eq60
returns-then-byte-eq60 g c = grind (arith, common_steps)

pub returns-then-byte-eq62 : goal.returns-then-byte-eq62
returns-then-byte-eq62 g c = grind (arith, common_steps)

pub returns-else-byte-eq62 : goal.returns-else-byte-eq62
returns-else-byte-eq62 g c = grind (arith, common_steps)
