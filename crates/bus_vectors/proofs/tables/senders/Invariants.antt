use Rattle.std.proofs.Common.{◌≡◌, ◌-◌, ◌≤◌, map}
use Rattle.std.specs.List.{range_with_len}
use Rattle.bus_vectors.specs.Made.{made_sender}
use Rattle.bus_vectors.proofs.tables.senders.Given as goal

abbrev pub invariant-loop-i : goal.invariant-loop-i
invariant-loop-i l = (1 ≤ l.i) × (l.senders.items ≡ map made_sender (range_with_len 1 (l.i - 1)))
