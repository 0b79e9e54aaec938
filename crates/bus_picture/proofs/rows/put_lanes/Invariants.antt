use Rattle.std.proofs.Common.{take}
use Rattle.bus_outer.specs.Texts.{Adds}
use Rattle.bus_picture.specs.Rows.{rows_text}
use Rattle.bus_picture.specs.TimeLines.{rows_of_lanes}
use Rattle.bus_picture.proofs.rows.put_lanes.Given as goal

abbrev pub invariant-loop-k : goal.invariant-loop-k
invariant-loop-k g l =
    Adds g.K.Sink.held g.K.Sink.faults l.fn.sink l.sink l.fn.text l.text (rows_text l.canvas.scale l.canvas.receivers.now l.canvas.list.now (rows_of_lanes (take l.k l.lanes)))
