use Rattle.std.proofs.Common.{arith}
use Rattle.std.proofs.lemmas.Grind.{common_steps}
use Rattle.bus_picture.proofs.overlap_bands.put_untouched.Goals as goal

pub returns-then-not-touched : goal.returns-then-not-touched
returns-then-not-touched g c = grind (arith, common_steps)

pub returns-else-not-touched : goal.returns-else-not-touched
returns-else-not-touched g c = grind (arith, common_steps)
