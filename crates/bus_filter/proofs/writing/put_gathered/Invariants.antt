use Rattle.std.proofs.Common.{◌≤◌, ◌-◌, take, length}
use Rattle.std.specs.List.{flat_map, zip}
use Rattle.bus_outer.specs.Texts.{Adds}
use Rattle.bus_strings.specs.Transmissions.{marks}
use Rattle.bus_filter.specs.Received.{Taker}
use Rattle.bus_filter.specs.inside.Putting.{marked_put}
use Rattle.bus_filter.proofs.writing.put_gathered.Given as goal

-- the entries so far are put
abbrev pub invariant-loop-at : goal.invariant-loop-at
invariant-loop-at g l = record {
  high : l.at ≤ length l.list;
  put : (let taker : Taker = record { number = l.number; takes = l.takes } in
      Adds g.K.Sink.held g.K.Sink.faults l.fn.sink l.sink l.fn.text l.text (flat_map (marked_put taker) (take l.at (zip l.list (marks l.list)))));
}

abbrev pub decreases-loop-at : goal.decreases-loop-at
decreases-loop-at g l = length l.list - l.at
