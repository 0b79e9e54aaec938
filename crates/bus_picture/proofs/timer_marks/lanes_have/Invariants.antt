use Rattle.std.proofs.Common.{◌≡◌, drop}
use Rattle.bus_picture.specs.Kinds.{lanes_have}
use Rattle.bus_picture.proofs.timer_marks.lanes_have.Given as goal

abbrev pub invariant-loop-lane : goal.invariant-loop-lane
invariant-loop-lane l = lanes_have l.scale l.table l.trace l.mark (drop l.lane-index l.lanes) ≡ lanes_have l.scale l.table l.trace l.mark l.lanes
