use Rattle.std.proofs.Common.{◌≡◌, ◌≤◌, ◌*◌, ◌+◌, ◌^◌, take}
use Rattle.std.specs.List.{sum_by}
use Rattle.bus_table.specs.Tables.{Sender}
use Rattle.bus_table.specs.Lengths.{longest}
use Rattle.bus_regime.proofs.judging.most_cycle.Given as goal

-- the turns so far, with room for more than there can be
abbrev pub invariant-loop-sender : goal.invariant-loop-sender
invariant-loop-sender l = (l.sum ≡ l.table.sg + sum_by (λ (s : Sender). s.tg + longest s) (take l.sender-index l.table.senders)) × (l.sum ≤ 2 ^ 33 * (l.sender-index + 1))
