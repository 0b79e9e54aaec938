use Rattle.std.proofs.Common.{◌≡◌, ◌-◌, ◌≤◌, map}
use Rattle.std.specs.List.{range_with_len}
use Rattle.bus_table.specs.Hands.{hand_of}
use Rattle.bus_vectors.specs.Made.{made_items, made_sender}
use Rattle.bus_vectors.proofs.hands.hands.Given as goal

abbrev pub invariant-loop-i : goal.invariant-loop-i
invariant-loop-i l = (1 ≤ l.i) × (l.hands.items ≡ map (λ k. hand_of (made_items l.number) (made_sender k)) (range_with_len 1 (l.i - 1)))
