use Rattle.std.proofs.Common.{◌≡◌, ◌+◌, ◌*◌, ◌≤◌, take}
use Rattle.bus_vectors.specs.Made.{made_cycle}
use Rattle.bus_vectors.proofs.tables.cycle.Given as goal

abbrev pub invariant-loop-sender : goal.invariant-loop-sender
invariant-loop-sender l = (l.bits ≡ made_cycle (take l.sender-index l.senders)) × (l.bits ≤ 300 + 876 * l.sender-index)
