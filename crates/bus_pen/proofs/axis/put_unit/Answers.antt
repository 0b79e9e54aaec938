use Rattle.std.proofs.Common.{arith}
use Rattle.std.proofs.lemmas.Grind.{common_steps}
use Rattle.bus_pen.proofs.axis.put_unit.Goals as goal

pub returns-in-BitTimes : goal.returns-in-BitTimes
returns-in-BitTimes g c = grind (arith, common_steps)

pub returns-in-Microseconds : goal.returns-in-Microseconds
returns-in-Microseconds g c = grind (arith, common_steps)

pub returns-in-Microseconds-2 : goal.returns-in-Microseconds-2
returns-in-Microseconds-2 g c = grind (arith, common_steps)

pub returns-in-Microseconds-3 : goal.returns-in-Microseconds-3
returns-in-Microseconds-3 g c = grind (arith, common_steps)
