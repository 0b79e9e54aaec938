use Rattle.std.proofs.Common.{◌≡◌, ◌*◌, ◌≤◌, ◌^◌, filter, take}
use Rattle.std.specs.List.{sum_by}
use Rattle.bus_shapes.specs.Sending.{is_of}
use Rattle.bus_picture.specs.Loads.{sent_bits}
use Rattle.bus_picture.proofs.load.terminal_bits.Given as goal

abbrev pub invariant-loop-k : goal.invariant-loop-k
invariant-loop-k l = record {
  value : l.bits ≡ sum_by (sent_bits l.scale) (filter (is_of l.terminal) (take l.k l.list));
  few : l.bits ≤ 2 ^ 46 * l.k;
}
