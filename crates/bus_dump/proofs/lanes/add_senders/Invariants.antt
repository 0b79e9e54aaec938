use Rattle.std.proofs.Common.{◌≡◌, map, take}
use Rattle.arrayvec.specs.ArrayVec.{array_vec_len}
use Rattle.bus_table.specs.Turns.{turn_order}
use Rattle.bus_dump.specs.Lanes.{sender_lane}
use Rattle.bus_dump.proofs.lanes.add_senders.Given as goal

abbrev pub invariant-loop-k : goal.invariant-loop-k
invariant-loop-k l = record {
  items : l.lanes.items ≡ map sender_lane (take l.k (turn_order l.table));
  count : array_vec_len l.lanes ≡ l.k;
}
