use Rattle.std.proofs.Common.{take}
use Rattle.std.specs.List.{flat_map}
use Rattle.bus_outer.specs.Texts.{Adds}
use Rattle.bus_dump.specs.inside.Standing.{lane_within}
use Rattle.bus_dump.proofs.save_file.show_part.Given as goal

abbrev pub invariant-loop-lane : goal.invariant-loop-lane
invariant-loop-lane g l =
    Adds g.K.Sink.held g.K.Sink.faults l.fn.sink l.sink l.fn.text l.text
    (flat_map (lane_within l.first l.breach l.table l.lanes) (take l.lane-index l.lanes))
