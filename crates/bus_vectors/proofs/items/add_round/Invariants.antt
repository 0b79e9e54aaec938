use Rattle.std.proofs.Common.{◌≡◌, ◌-◌, ◌≤◌, ◌++◌, map}
use Rattle.std.specs.List.{range_with_len}
use Rattle.bus_vectors.specs.Made.{made_item}
use Rattle.bus_vectors.proofs.items.add_round.Given as goal

abbrev pub invariant-loop-i : goal.invariant-loop-i
invariant-loop-i l = (1 ≤ l.i) × (l.items.items ≡ l.fn.items.items ++ map (made_item l.number l.round) (range_with_len 1 (l.i - 1)))
