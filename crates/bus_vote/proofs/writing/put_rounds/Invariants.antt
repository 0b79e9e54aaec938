use Rattle.std.proofs.Common.{◌≡◌, drop}
use Rattle.std.specs.List.{flat_map, range_with_len}
use Rattle.bus_outer.specs.Texts.{Adds}
use Rattle.bus_vote.specs.inside.Putting.{round_put}
use Rattle.bus_vote.specs.Rounds.{sent_by}
use Rattle.bus_vote.proofs.writing.put_rounds.Given as goal

-- the rounds so far are put, and each walk has the others before it
abbrev pub invariant-loop-round : goal.invariant-loop-round
invariant-loop-round g l = record {
  first : l.first ≡ drop l.round (sent_by l.voted.first.terminal l.list);
  second : l.second ≡ drop l.round (sent_by l.voted.second.terminal l.list);
  third : l.third ≡ drop l.round (sent_by l.voted.third.terminal l.list);
  adds : Adds g.K.Sink.held g.K.Sink.faults l.fn.sink l.sink l.fn.text l.text (flat_map (round_put l.list l.voted) (range_with_len 0 l.round));
}
