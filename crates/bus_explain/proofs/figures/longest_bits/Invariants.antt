use Rattle.std.proofs.Common.{◌≡◌, ◌≤◌, ◌*◌, ◌^◌, take}
use Rattle.std.specs.List.{sum_by}
use Rattle.bus_table.specs.Lengths.{longest}
use Rattle.bus_explain.proofs.figures.longest_bits.Given as goal

-- the bits so far, with room for more than there can be
abbrev pub invariant-loop-sender : goal.invariant-loop-sender
invariant-loop-sender l = (l.bits ≡ sum_by longest (take l.sender-index l.table.senders)) × (l.bits ≤ 2 ^ 20 * l.sender-index)
