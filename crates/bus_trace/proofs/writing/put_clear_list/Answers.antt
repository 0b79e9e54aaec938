use Rattle.std.proofs.Common.{arith}
use Rattle.std.proofs.lemmas.Grind.{common_steps}
use Rattle.bus_trace.proofs.writing.put_clear_list.Goals as goal

pub loop-x-preserved : goal.loop-x-preserved
loop-x-preserved g c = grind (arith, common_steps)

pub returns : goal.returns
returns g c = grind (arith, common_steps)
