use Rattle.std.proofs.Common.{arith}
use Rattle.std.proofs.lemmas.Grind.{common_steps}
use Rattle.bus_wave.proofs.saying.put_fault.Goals as goal

pub returns-in-Cut : goal.returns-in-Cut
returns-in-Cut g c = grind (arith, common_steps)

pub returns-in-Close : goal.returns-in-Close
returns-in-Close g c = grind (arith, common_steps)

pub returns-in-Misfit : goal.returns-in-Misfit
returns-in-Misfit g c = grind (arith, common_steps)

pub returns-in-Stranger : goal.returns-in-Stranger
returns-in-Stranger g c = grind (arith, common_steps)
