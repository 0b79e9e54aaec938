use Rattle.std.proofs.Common.{take}
use Rattle.bus_outer.specs.Texts.{Adds}
use Rattle.bus_picture.specs.Lanes.{each_lane}
use Rattle.bus_picture.specs.Marks.{lane_dashes}
use Rattle.bus_picture.proofs.marks.put_all_dashes.Given as goal

abbrev pub invariant-loop-k : goal.invariant-loop-k
invariant-loop-k g l = Adds g.K.Sink.held g.K.Sink.faults l.fn.sink l.sink l.fn.text l.text (each_lane (lane_dashes l.left l.terminal) 0 (take l.k l.lanes))
