use Rattle.std.proofs.Common.{◌≡◌, ◌-◌, ◌≤◌, map}
use Rattle.std.specs.List.{range_with_len}
use Rattle.bus_vectors.specs.Made.{made_take}
use Rattle.bus_vectors.proofs.tables.listener.Given as goal

abbrev pub invariant-loop-i : goal.invariant-loop-i
invariant-loop-i l = (1 ≤ l.i) × (l.takes.items ≡ map made_take (range_with_len 1 (l.i - 1)))
