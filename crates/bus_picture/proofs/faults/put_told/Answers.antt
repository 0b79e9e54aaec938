use Rattle.std.proofs.Common.{arith}
use Rattle.std.proofs.lemmas.Grind.{common_steps}
use Rattle.bus_picture.proofs.faults.put_told.Goals as goal

pub returns-in-Audit : goal.returns-in-Audit
returns-in-Audit g c = grind (arith, common_steps)

pub returns-in-OnCable : goal.returns-in-OnCable
returns-in-OnCable g c = grind (arith, common_steps)

pub returns-in-Findings : goal.returns-in-Findings
returns-in-Findings g c = grind (arith, common_steps)
