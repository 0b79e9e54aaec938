use Rattle.std.proofs.Common.{◌≡◌}
use Rattle.std.specs.List.{flat_map, range_with_len}
use Rattle.bus_outer.specs.Texts.{Adds}
use Rattle.bus_vote.specs.inside.Putting.{label_put}
use Rattle.bus_vote.proofs.writing.put_labels.Given as goal

-- the labels so far are put
abbrev pub invariant-loop-number : goal.invariant-loop-number
invariant-loop-number g l = record {
  same : l.index ≡ l.list;
  adds : Adds g.K.Sink.held g.K.Sink.faults l.fn.sink l.sink l.fn.text l.text (flat_map (label_put l.table l.list) (range_with_len 0 l.number));
}
