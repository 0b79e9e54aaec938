use Rattle.std.proofs.Common.{take}
use Rattle.bus_outer.specs.Texts.{Adds}
use Rattle.bus_picture.specs.Lanes.{each_lane}
use Rattle.bus_picture.specs.Paces.{lane_pace}
use Rattle.bus_picture.proofs.pace.put_each_pace.Given as goal

abbrev pub invariant-loop-k : goal.invariant-loop-k
invariant-loop-k g l = Adds g.K.Sink.held g.K.Sink.faults l.fn.sink l.sink l.fn.text l.text (each_lane (lane_pace l.scale l.list) 0 (take l.k l.lanes))
