use Rattle.std.proofs.Common.{take}
use Rattle.std.specs.List.{flat_map}
use Rattle.bus_outer.specs.Texts.{Adds}
use Rattle.bus_dump.specs.inside.Layouts.{lane_put}
use Rattle.bus_dump.specs.inside.TimerWalks.{scene_of}
use Rattle.bus_dump.proofs.layout.put_all_changes.Given as goal

abbrev pub invariant-loop-lane : goal.invariant-loop-lane
invariant-loop-lane g l =
    Adds g.K.Sink.held g.K.Sink.faults l.fn.sink l.sink l.fn.text l.text
    (flat_map (lane_put l.dump (scene_of l.before) (scene_of l.now)) (take l.lane-index l.lanes))
