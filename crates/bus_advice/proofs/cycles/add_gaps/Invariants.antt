use Rattle.std.proofs.Common.{◌≡◌, ◌++◌, take}
use Rattle.std.specs.List.{flat_map}
use Rattle.bus_table.specs.Turns.{turn_order}
use Rattle.bus_advice.specs.Advices.{gap_advice}
use Rattle.bus_advice.proofs.cycles.add_gaps.Given as goal

-- the advices of the senders so far
abbrev pub invariant-loop-k : goal.invariant-loop-k
invariant-loop-k l = l.advices.items ≡ l.fn.advices.items ++ flat_map (gap_advice l.table) (take l.k (turn_order l.table))
