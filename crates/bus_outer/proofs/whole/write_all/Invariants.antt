use Rattle.std.proofs.Common.{◌≡◌, length}
use Rattle.bus_outer.specs.Sinks.{Written}
use Rattle.bus_outer.proofs.whole.write_all.Given as goal

-- all is written but the rest, and no fault was counted
abbrev pub invariant-loop-rest : goal.invariant-loop-rest
invariant-loop-rest g l = record {
  written : Written (g.K.Sink.held l.fn.sink) (g.K.Sink.held l.sink) l.rest l.bytes;
  same : g.K.Sink.faults l.sink ≡ g.K.Sink.faults l.fn.sink;
}

abbrev pub decreases-loop-rest : goal.decreases-loop-rest
decreases-loop-rest g l = length l.rest
