use Rattle.std.proofs.Common.{take}
use Rattle.std.specs.List.{flat_map}
use Rattle.bus_outer.specs.Texts.{Adds}
use Rattle.bus_dump.specs.DumpTexts.{value_line}
use Rattle.bus_dump.specs.inside.TimerWalks.{scene_of}
use Rattle.bus_dump.proofs.change.put_lines.Given as goal

abbrev pub invariant-loop-signal : goal.invariant-loop-signal
invariant-loop-signal g l = Adds g.K.Sink.held g.K.Sink.faults l.fn.sink l.sink l.fn.text l.text (flat_map (value_line (scene_of l.scene)) (take l.signal-index l.signals))
