use Rattle.std.proofs.Common.{◌≡◌, ◌≤◌, ◌*◌, take}
use Rattle.std.specs.List.{sum_by, zip}
use Rattle.bus_strings.specs.Limits.{most_strings}
use Rattle.bus_strings.specs.Transmissions.{marks}
use Rattle.bus_table.specs.Ranges.{most_takes}
use Rattle.bus_filter.specs.Received.{Taker}
use Rattle.bus_filter.specs.inside.Putting.{marked_count}
use Rattle.bus_filter.proofs.counting.count_gathered.Given as goal

-- the entries so far are counted
abbrev pub invariant-loop-at : goal.invariant-loop-at
invariant-loop-at l =
    let taker : Taker = record { number = l.number; takes = l.takes } in
    record {
      counted : l.lines ≡ sum_by (marked_count taker) (take l.at (zip l.list (marks l.list)));
      bound : l.lines ≤ most_takes * most_strings * l.at;
    }
