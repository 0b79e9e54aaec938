use Rattle.std.proofs.Common.{◌≡◌}
use Rattle.std.specs.List.{filter, range_with_len}
use Rattle.bus_outer.specs.Texts.{Adds}
use Rattle.bus_picture.specs.Takings.{is_taken_by}
use Rattle.bus_picture.specs.inside.Noting.{has_numbers, numbers_so_far}
use Rattle.bus_picture.proofs.receivers.Receivers.put_numbers.Given as goal

abbrev pub invariant-loop-before : goal.invariant-loop-before
invariant-loop-before g l = record {
  adds : Adds g.K.Sink.held g.K.Sink.faults l.fn.sink l.sink l.fn.text l.text
      (numbers_so_far (filter (is_taken_by l.self l.sent l.string) (range_with_len 1 l.before)));
  some : l.some ≡ has_numbers (filter (is_taken_by l.self l.sent l.string) (range_with_len 1 l.before));
}
