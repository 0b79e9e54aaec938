use Rattle.std.proofs.Common.{◌≡◌, ◌+◌, ◌*◌, ◌≤◌, ◌^◌}
use Rattle.std.specs.List.{range_with_len, sum_by}
use Rattle.bus_strings.specs.Pulses.{pulse_start}
use Rattle.bus_picture.specs.Loads.{pulse_bits}
use Rattle.bus_picture.proofs.load.sent_bits.Given as goal

abbrev pub invariant-loop-k : goal.invariant-loop-k
invariant-loop-k l = record {
  value : l.bits ≡ sum_by (pulse_bits l.scale l.x) (range_with_len 0 l.k);
  few : l.bits ≤ 2 ^ 41 * l.k;
  begin : l.begin ≡ l.x.moment + pulse_start l.x.message l.k;
  low : l.begin ≤ 2 ^ 40 + 2 ^ 14 * l.k;
}
