use Rattle.std.proofs.Common.{arith}
use Rattle.std.proofs.lemmas.Grind.{common_steps}
use Rattle.bus_dump.proofs.save_file.put_timing.Goals as goal

pub returns-then-matches : goal.returns-then-matches
returns-then-matches g c = grind (arith, common_steps)

pub returns-else-matches : goal.returns-else-matches
returns-else-matches g c = grind (arith, common_steps)
