use Rattle.std.proofs.Common.{◌≡◌, ◌≤◌, ◌*◌, take}
use Rattle.std.specs.List.{sum_by}
use Rattle.bus_table.specs.Ranges.{most_takes}
use Rattle.bus_filter.specs.inside.Putting.{string_count}
use Rattle.bus_filter.proofs.counting.count_strings.Given as goal

-- the wordstrings so far are counted
abbrev pub invariant-loop-string : goal.invariant-loop-string
invariant-loop-string l = record {
  counted : l.lines ≡ sum_by (string_count l.takes) (take l.string-index l.strings);
  bound : l.lines ≤ most_takes * l.string-index;
}
