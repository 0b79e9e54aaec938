use Rattle.std.proofs.Common.{◌≡◌, ◌+◌, ◌-◌, length}
use Rattle.bus_outer.specs.Sources.{Taken}
use Rattle.bus_trace.specs.Limits.{trace_limit}
use Rattle.bus_trace.specs.Runs.{Going, due, stream_of}
use Rattle.bus_trace.specs.declared.stage.Stage.TheVariants.{Open}
use Rattle.bus_trace.proofs.reading.read_text.Given as goal

-- the bytes so far decide nothing, and the reader stands where they lead
abbrev pub invariant-lines : goal.invariant-lines
invariant-lines g l = record {
  is_open : l.reader.stage ≡ Open;
  is_due : due trace_limit (stream_of l.reader.at) ≡ Going l.reader.at;
  taken : Taken (g.S.Source.left l.initial.source) (g.S.Source.left l.source) (stream_of l.reader.at);
  same : g.S.Source.faults l.source ≡ g.S.Source.faults l.initial.source;
}

abbrev pub decreases-lines : goal.decreases-lines
decreases-lines g l = (trace_limit + 1) - length (stream_of l.reader.at)
