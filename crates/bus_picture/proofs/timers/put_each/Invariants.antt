use Rattle.std.proofs.Common.{take}
use Rattle.bus_outer.specs.Texts.{Adds}
use Rattle.bus_picture.specs.TimeLines.{each_lane, lane_timers}
use Rattle.bus_picture.proofs.timers.put_each.Given as goal

abbrev pub invariant-loop-k : goal.invariant-loop-k
invariant-loop-k g l =
    Adds g.K.Sink.held g.K.Sink.faults l.fn.sink l.sink l.fn.text l.text (each_lane (lane_timers l.scale l.table l.trace) 0 (take l.k l.lanes))
