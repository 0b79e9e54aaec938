use Rattle.std.proofs.Common.{arith}
use Rattle.std.proofs.lemmas.Grind.{common_steps}
use Rattle.bus_dump.proofs.change.put_lines.Goals as goal

pub loop-signal-preserved : goal.loop-signal-preserved
loop-signal-preserved g c = grind (arith, common_steps)

pub returns : goal.returns
returns g c = grind (arith, common_steps)
