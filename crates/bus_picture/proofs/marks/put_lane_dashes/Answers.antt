use Rattle.std.proofs.Common.{arith}
use Rattle.std.proofs.lemmas.Grind.{common_steps}
use Rattle.bus_picture.proofs.marks.put_lane_dashes.Goals as goal

pub returns : goal.returns
returns g c = grind (arith, common_steps)
