use Rattle.std.proofs.Common.{◌≡◌, ◌≤◌, ◌*◌, ◌^◌, take, length}
use Rattle.std.specs.List.{sum_by}
use Rattle.bus_table.specs.Tables.{Sender}
use Rattle.bus_takes.proofs.untaken.all_sends.Given as goal

-- those so far, with room for more than there can be
abbrev pub invariant-loop-sender : goal.invariant-loop-sender
invariant-loop-sender l =
    (l.count ≡ sum_by (λ (sender : Sender). length sender.sends) (take l.sender-index l.table.senders)) × (l.count ≤ 2 ^ 64 * l.sender-index)
