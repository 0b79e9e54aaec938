use Rattle.std.proofs.Common.{refl}
use Rattle.bus_vectors.specs.Rows.{receivers}
use Rattle.bus_vectors.proofs.rows.ran.Goals as goal

pub returns : goal.returns
unfolding receivers
returns c = refl
