use Rattle.std.proofs.Common.{◌≡◌}
use Rattle.std.specs.List.{flat_map, range_with_len}
use Rattle.bus_vectors.specs.Made.{made_round}
use Rattle.bus_vectors.proofs.items.items.Given as goal

abbrev pub invariant-loop-round : goal.invariant-loop-round
invariant-loop-round l = l.items.items ≡ flat_map (made_round l.number) (range_with_len 0 l.round)
