use Rattle.std.proofs.Common.{◌≡◌, drop}
use Rattle.bus_table.specs.Turns.{turn_order}
use Rattle.bus_cycles.specs.Lanes.{lane_from, lane_of}
use Rattle.bus_cycles.proofs.page.lane_of.Given as goal

abbrev pub invariant-loop-k : goal.invariant-loop-k
invariant-loop-k l = lane_of l.table l.terminal ≡ lane_from l.k l.terminal (drop l.k (turn_order l.table))
