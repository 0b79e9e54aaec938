use Rattle.std.proofs.Common.{take}
use Rattle.bus_outer.specs.Texts.{Adds}
use Rattle.bus_trace.specs.inside.Writing.{clear_put}
use Rattle.bus_trace.proofs.writing.put_clear_list.Given as goal

abbrev pub invariant-loop-x : goal.invariant-loop-x
invariant-loop-x g l = Adds g.K.Sink.held g.K.Sink.faults l.fn.sink l.sink l.fn.text l.text (clear_put (take l.x-index l.list))
