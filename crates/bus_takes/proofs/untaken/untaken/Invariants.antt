use Rattle.std.proofs.Common.{◌≡◌, ◌≤◌, ◌*◌, ◌^◌, take}
use Rattle.std.specs.List.{sum_by}
use Rattle.bus_takes.specs.Takes.{untaken_of}
use Rattle.bus_takes.proofs.untaken.untaken.Given as goal

-- those so far, with room for more than there can be
abbrev pub invariant-loop-sender : goal.invariant-loop-sender
invariant-loop-sender l =
    (l.count ≡ sum_by (untaken_of l.table) (take l.sender-index l.table.senders)) × (l.count ≤ 2 ^ 64 * l.sender-index)
