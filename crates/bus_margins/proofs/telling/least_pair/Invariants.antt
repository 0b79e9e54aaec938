use Rattle.std.proofs.Common.{◌≡◌, take}
use Rattle.bus_table.specs.Turns.{turn_order}
use Rattle.bus_margins.specs.Least.{least}
use Rattle.bus_margins.specs.inside.Telling.{pair_room, spoken_of, neighbours}
use Rattle.bus_margins.proofs.telling.least_pair.Given as goal

-- the least room between those so far
abbrev pub invariant-loop-k : goal.invariant-loop-k
invariant-loop-k l = l.least ≡ least (neighbours (pair_room l.bounds l.table l.rule) (spoken_of l.rule (take l.k (turn_order l.table))))
