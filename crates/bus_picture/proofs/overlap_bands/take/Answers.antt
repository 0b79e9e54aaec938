use Rattle.std.proofs.Common.{arith}
use Rattle.std.proofs.lemmas.Grind.{common_steps}
use Rattle.bus_picture.proofs.overlap_bands.take.Goals as goal

pub returns-clause-adds : goal.returns-clause-adds
returns-clause-adds g c = grind (arith, common_steps)

pub returns-clause-last : goal.returns-clause-last
returns-clause-last g c = grind (arith, common_steps)

pub returns-then-not-is_overlapped-clause-adds : goal.returns-then-not-is_overlapped-clause-adds
returns-then-not-is_overlapped-clause-adds g c = grind (arith, common_steps)

pub returns-then-not-is_overlapped-clause-last : goal.returns-then-not-is_overlapped-clause-last
returns-then-not-is_overlapped-clause-last g c = grind (arith, common_steps)
