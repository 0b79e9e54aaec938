use Rattle.std.proofs.Common.{arith}
use Rattle.std.proofs.lemmas.Grind.{common_steps}
use Rattle.bus_shapes.proofs.heading.put_accept.Goals as goal

pub returns-in-Periodic : goal.returns-in-Periodic
returns-in-Periodic g c = grind (arith, common_steps)

pub returns-in-Aperiodic : goal.returns-in-Aperiodic
returns-in-Aperiodic g c = grind (arith, common_steps)
