use Rattle.std.proofs.Common.{refl}
use Rattle.bus_picture.proofs.laws.cable_is_unmarked.Goals as goal

pub returns : goal.returns
returns c scale bottom drawn table trace garbled collided = (refl, refl)
