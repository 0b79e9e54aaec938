use Rattle.std.proofs.Common.{◌≡◌, take}
use Rattle.std.specs.Prelude.{fold}
use Rattle.bus_picture.specs.inside.Pacing.{paced, unpaced}
use Rattle.bus_picture.proofs.pace.pace_in.Given as goal

abbrev pub invariant-loop-k : goal.invariant-loop-k
invariant-loop-k l = l.pacing ≡ fold (paced l.scale l.terminal) unpaced (take l.k l.list)
