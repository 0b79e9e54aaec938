use Rattle.std.specs.Prelude.{count_by, is_some}
use Rattle.std.specs.List.{flat_map}
use Rattle.std.proofs.Common.{◌≡◌, ◌≤◌, take}
use Rattle.bus_outer.specs.Texts.{Adds}
use Rattle.bus_findings.specs.Silences.{silence_of}
use Rattle.bus_findings.specs.Texts.{silent_lines}
use Rattle.bus_findings.proofs.writing.put_silences.Given as goal

-- those of the senders so far
abbrev pub invariant-loop-k : goal.invariant-loop-k
invariant-loop-k g l = record {
  adds : Adds g.K.Sink.held g.K.Sink.faults l.fn.sink l.sink l.fn.text l.text (flat_map (silent_lines l.bounds l.table l.trace) (take l.k l.senders));
  count : l.silent ≡ count_by (λ sender. is_some (silence_of l.bounds l.table l.trace sender)) (take l.k l.senders);
  few : l.silent ≤ l.k;
}
