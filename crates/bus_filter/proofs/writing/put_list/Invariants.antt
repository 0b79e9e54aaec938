use Rattle.std.proofs.Common.{◌≡◌, take, drop}
use Rattle.std.specs.List.{flat_map, zip}
use Rattle.bus_outer.specs.Texts.{Adds}
use Rattle.bus_strings.specs.Transmissions.{marks}
use Rattle.bus_filter.specs.Received.{Taker}
use Rattle.bus_filter.specs.inside.Putting.{marked_put}
use Rattle.bus_filter.proofs.writing.put_list.Given as goal

-- the entries so far are put, and the marks of the others are left
abbrev pub invariant-loop-x : goal.invariant-loop-x
invariant-loop-x g l =
    let taker : Taker = record { number = l.number; takes = l.takes } in
    record {
      left : l.marks ≡ drop l.x-index (marks l.list);
      adds : Adds g.K.Sink.held g.K.Sink.faults l.fn.sink l.sink l.fn.text l.text (flat_map (marked_put taker) (take l.x-index (zip l.list (marks l.list))));
    }
