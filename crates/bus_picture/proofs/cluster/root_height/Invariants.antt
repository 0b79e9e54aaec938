use Rattle.std.proofs.Common.{◌≡◌, ◌+◌, ◌≤◌}
use Rattle.std.specs.List.{count_by, range_with_len}
use Rattle.bus_picture.specs.Boxes.{is_below_root}
use Rattle.bus_picture.proofs.cluster.root_height.Given as goal

abbrev pub invariant-loop-k : goal.invariant-loop-k
invariant-loop-k l = record {
  value : l.height ≡ count_by (λ k. is_below_root l.busy l.bits (k + 1)) (range_with_len 0 l.k);
  few : l.height ≤ l.k;
}
