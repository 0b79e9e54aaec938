use Rattle.std.proofs.Common.{◌≡◌, ℕ, ◌<◌, get_or, length}
use Rattle.bus_cycles.specs.Lanes.{lane_of}
use Rattle.bus_cycles.proofs.page.lanes_of.Given as goal

abbrev pub invariant-loop-number : goal.invariant-loop-number
invariant-loop-number l = record {
  all : length l.lanes ≡ 256;
  told : (n : ℕ) → n < l.number → get_or l.lanes n 0 ≡ lane_of l.table n;
}
