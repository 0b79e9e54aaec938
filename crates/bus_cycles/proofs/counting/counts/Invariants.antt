use Rattle.std.proofs.Common.{◌≡◌, ◌≤◌, ◌+◌, length}
use Rattle.std.specs.List.{count_by}
use Rattle.bus_shapes.specs.declared.sent.Sent.{Sent}
use Rattle.bus_cycles.specs.Sents.{shown}
use Rattle.bus_cycles.proofs.counting.counts.Given as goal

abbrev pub invariant-loop-sent : goal.invariant-loop-sent
invariant-loop-sent l = record {
  shown_is : l.count + length l.sent-iterator ≡ length (shown l.window l.trace.list);
  garbled_is : l.garbled + count_by (λ (s : Sent). s.garbled) l.sent-iterator ≡ count_by (λ (s : Sent). s.garbled) (shown l.window l.trace.list);
  few : l.garbled ≤ l.count;
}
