use Rattle.std.proofs.Common.{◌≡◌, take}
use Rattle.bus_table.specs.Turns.{turn_order}
use Rattle.bus_design.specs.Others.{with_gaps}
use Rattle.bus_design.proofs.making.with_gaps.Given as goal

-- those so far
abbrev pub invariant-loop-k : goal.invariant-loop-k
invariant-loop-k l = l.made.items ≡ with_gaps (take l.k (turn_order l.table)) (take l.k l.gaps)
