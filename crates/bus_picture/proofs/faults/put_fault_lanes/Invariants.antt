use Rattle.std.proofs.Common.{take}
use Rattle.bus_outer.specs.Texts.{Adds}
use Rattle.bus_picture.specs.Faults.{fault_lane}
use Rattle.bus_picture.specs.Lanes.{each_lane}
use Rattle.bus_picture.proofs.faults.put_fault_lanes.Given as goal

abbrev pub invariant-loop-k : goal.invariant-loop-k
invariant-loop-k g l =
    Adds g.K.Sink.held g.K.Sink.faults l.fn.sink l.sink l.fn.text l.text (each_lane (fault_lane l.near l.left l.fault) 0 (take l.k l.lanes))
