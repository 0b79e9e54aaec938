use Rattle.std.proofs.Common.{◌≡◌, ◌≤◌, ◌*◌, take, drop}
use Rattle.std.specs.List.{sum_by, zip}
use Rattle.bus_strings.specs.Limits.{most_strings}
use Rattle.bus_strings.specs.Transmissions.{marks}
use Rattle.bus_table.specs.Ranges.{most_takes}
use Rattle.bus_filter.specs.Received.{Taker}
use Rattle.bus_filter.specs.inside.Putting.{marked_count}
use Rattle.bus_filter.proofs.counting.count_list.Given as goal

-- the entries so far are counted, and the marks of the others are left
abbrev pub invariant-loop-x : goal.invariant-loop-x
invariant-loop-x l =
    let taker : Taker = record { number = l.number; takes = l.takes } in
    record {
      left : l.marks ≡ drop l.x-index (marks l.list);
      counted : l.lines ≡ sum_by (marked_count taker) (take l.x-index (zip l.list (marks l.list)));
      bound : l.lines ≤ most_takes * most_strings * l.x-index;
    }
