use Rattle.std.proofs.Common.{◌<◌}
use Rattle.std.specs.List.{AllAdjacentBelow}
use Rattle.bus_load.specs.Loads.{Stretch}
use Rattle.bus_load.proofs.joining.are_apart.Given as goal

abbrev pub invariant-loop-k : goal.invariant-loop-k
invariant-loop-k l = AllAdjacentBelow (λ (x y : Stretch). x.to < y.from) l.stretches l.k
