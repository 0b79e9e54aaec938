use Rattle.std.proofs.Common.{◌≡◌, ◌++◌, take}
use Rattle.std.specs.List.{flat_map}
use Rattle.bus_table.specs.Turns.{turn_order}
use Rattle.bus_advice.specs.Advices.{least_advices}
use Rattle.bus_advice.proofs.cycles.add_least.Given as goal

-- the advices of the senders so far
abbrev pub invariant-loop-k : goal.invariant-loop-k
invariant-loop-k l = l.advices.items ≡ l.fn.advices.items ++ flat_map (least_advices l.table) (take l.k (turn_order l.table))
