use Rattle.std.proofs.Common.{arith}
use Rattle.std.proofs.lemmas.Grind.{common_steps}
use Rattle.bus_cycles.proofs.row_words.put_begin.Goals as goal

pub returns-then-begin-origin_offset : goal.returns-then-begin-origin_offset
returns-then-begin-origin_offset g c = grind (arith, common_steps)

pub returns-else-begin-origin_offset : goal.returns-else-begin-origin_offset
returns-else-begin-origin_offset g c = grind (arith, common_steps)
