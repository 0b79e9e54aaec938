use Rattle.std.proofs.Common.{arith}
use Rattle.std.proofs.lemmas.Grind.{common_steps}
use Rattle.bus_pen.proofs.class.put_each.Goals as goal

pub loop-class-preserved : goal.loop-class-preserved
loop-class-preserved g c = grind (arith, common_steps)

pub returns : goal.returns
returns g c = grind (arith, common_steps)
