use Rattle.std.proofs.Common.{arith}
use Rattle.std.proofs.lemmas.Grind.{common_steps}
use Rattle.bus_cycles.proofs.open.put_cut_before.Goals as goal

pub returns-then-is_cut_before : goal.returns-then-is_cut_before
returns-then-is_cut_before g c = grind (arith, common_steps)

pub returns-else-is_cut_before : goal.returns-else-is_cut_before
returns-else-is_cut_before g c = grind (arith, common_steps)
