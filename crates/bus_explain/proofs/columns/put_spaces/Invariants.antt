use Rattle.std.proofs.Common.{replicate}
use Rattle.bus_outer.specs.Texts.{Adds}
use Rattle.bus_explain.proofs.columns.put_spaces.Given as goal

abbrev pub invariant-loop-k : goal.invariant-loop-k
invariant-loop-k g l = Adds g.K.Sink.held g.K.Sink.faults l.fn.sink l.sink l.fn.text l.text (replicate l._k 32)
