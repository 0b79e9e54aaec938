use Rattle.std.proofs.Common.{arith}
use Rattle.std.proofs.lemmas.Grind.{common_steps}
use Rattle.bus_cycles.proofs.row_words.put_last_end.Goals as goal

pub returns-then-is_whole : goal.returns-then-is_whole
returns-then-is_whole g c = grind (arith, common_steps)

pub returns-else-is_whole : goal.returns-else-is_whole
returns-else-is_whole g c = grind (arith, common_steps)
