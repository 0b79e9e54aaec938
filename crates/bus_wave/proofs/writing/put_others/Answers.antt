use Rattle.std.proofs.Common.{arith}
use Rattle.std.proofs.lemmas.Grind.{common_steps}
use Rattle.bus_wave.proofs.writing.put_others.Goals as goal

pub loop-string-preserved : goal.loop-string-preserved
loop-string-preserved g c = grind (arith, common_steps)

pub returns : goal.returns
returns g c = grind (arith, common_steps)
