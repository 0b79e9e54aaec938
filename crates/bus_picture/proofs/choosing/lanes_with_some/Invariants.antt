use Rattle.std.proofs.Common.{◌≡◌, ◌≤◌, take}
use Rattle.std.specs.List.{filter}
use Rattle.arrayvec.specs.ArrayVec.{array_vec_len}
use Rattle.bus_picture.specs.Lanes.{has_some}
use Rattle.bus_picture.proofs.choosing.lanes_with_some.Given as goal

abbrev pub invariant-loop-k : goal.invariant-loop-k
invariant-loop-k l = record {
  items : l.some.items ≡ filter (has_some l.scale l.told l.list) (take l.k l.lanes);
  count : array_vec_len l.some ≤ l.k;
}
