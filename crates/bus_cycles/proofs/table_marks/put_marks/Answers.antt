use Rattle.std.proofs.Common.{arith}
use Rattle.std.proofs.lemmas.Grind.{common_steps}
use Rattle.bus_cycles.proofs.table_marks.put_marks.Goals as goal

pub returns-in-Accept : goal.returns-in-Accept
returns-in-Accept g c = grind (arith, common_steps)

pub returns-in-SmallGap : goal.returns-in-SmallGap
returns-in-SmallGap g c = grind (arith, common_steps)

pub returns-in-ShortCycle : goal.returns-in-ShortCycle
returns-in-ShortCycle g c = grind (arith, common_steps)
