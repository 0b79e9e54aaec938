use Rattle.std.proofs.Common.{take}
use Rattle.std.specs.List.{flat_map}
use Rattle.bus_outer.specs.Texts.{Adds}
use Rattle.bus_dump.specs.inside.Walks.{change_put}
use Rattle.bus_dump.specs.inside.TimerWalks.{scene_of}
use Rattle.bus_dump.proofs.change.put_changed.Given as goal

abbrev pub invariant-loop-signal : goal.invariant-loop-signal
invariant-loop-signal g l = Adds g.K.Sink.held g.K.Sink.faults l.fn.sink l.sink l.fn.text l.text (flat_map (change_put (scene_of l.before) (scene_of l.now)) (take l.signal-index l.signals))
