use Rattle.std.proofs.Common.{◌≡◌, ◌+◌, ◌&&◌, ◌≤◌, length}
use Rattle.std.specs.List.{count_by}
use Rattle.bus_shapes.specs.Sending.{sents}
use Rattle.bus_picture.specs.TimeLines.{is_shown}
use Rattle.bus_picture.proofs.counting.counts.Given as goal

abbrev pub invariant-loop-sent : goal.invariant-loop-sent
invariant-loop-sent l = record {
  shown : l.shown + count_by (is_shown l.scale) l.sent-iterator ≡ count_by (is_shown l.scale) (sents l.trace.list);
  garbled : l.garbled + count_by (λ x. is_shown l.scale x && x.garbled) l.sent-iterator
      ≡ count_by (λ x. is_shown l.scale x && x.garbled) (sents l.trace.list);
  few : l.shown + length l.sent-iterator ≤ length l.trace.list;
  fewer : l.garbled + length l.sent-iterator ≤ length l.trace.list;
}
