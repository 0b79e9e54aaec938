use Rattle.std.proofs.Common.{◌≡◌}
use Rattle.std.specs.List.{flat_map, range_with_len}
use Rattle.bus_outer.specs.Texts.{Adds}
use Rattle.bus_vote.specs.inside.Putting.{round_put}
use Rattle.bus_vote.proofs.writing.put_found.Given as goal

-- the rounds so far are put, and each reader has read them
abbrev pub invariant-loop-round : goal.invariant-loop-round
invariant-loop-round g l = record {
  first : l.first ≡ record { list = l.fn.list; label = l.voted.label; channel = l.voted.first; round = l.round };
  second : l.second ≡ record { list = l.fn.list; label = l.voted.label; channel = l.voted.second; round = l.round };
  third : l.third ≡ record { list = l.fn.list; label = l.voted.label; channel = l.voted.third; round = l.round };
  adds : Adds g.K.Sink.held g.K.Sink.faults l.fn.sink l.sink l.fn.text l.text (flat_map (round_put l.fn.list l.voted) (range_with_len 0 l.round));
}
