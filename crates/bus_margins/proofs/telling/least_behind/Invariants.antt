use Rattle.std.proofs.Common.{◌≡◌, take}
use Rattle.bus_table.specs.Turns.{turn_order}
use Rattle.bus_margins.specs.inside.Telling.{least_behind}
use Rattle.bus_margins.proofs.telling.least_behind.Given as goal

-- the least room at those so far
abbrev pub invariant-loop-k : goal.invariant-loop-k
invariant-loop-k l = l.least ≡ least_behind l.bounds l.table l.rule (take l.k (turn_order l.table))
