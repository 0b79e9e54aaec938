use Rattle.std.proofs.Common.{arith}
use Rattle.std.proofs.lemmas.Grind.{common_steps}
use Rattle.bus_table.proofs.writing.put_senders.Goals as goal

pub loop-sender-preserved : goal.loop-sender-preserved
loop-sender-preserved g c = grind (arith, common_steps)

pub returns : goal.returns
returns g c = grind (arith, common_steps)
