use Rattle.std.proofs.Common.{◌≡◌, ◌≤◌, ◌+◌, ◌++◌, map}
use Rattle.arrayvec.specs.ArrayVec.{array_vec_len}
use Rattle.std.specs.List.{filter, range_with_len}
use Rattle.bus_dump.specs.Lanes.{is_stranger, stranger_lane}
use Rattle.bus_dump.proofs.lanes.add_strangers.Given as goal

abbrev pub invariant-loop-before : goal.invariant-loop-before
invariant-loop-before l = record {
  items : l.lanes.items ≡ l.fn.lanes.items ++ map stranger_lane (filter (is_stranger l.table l.list) (range_with_len 1 l.before));
  count : array_vec_len l.lanes ≤ 128 + l.before;
}
