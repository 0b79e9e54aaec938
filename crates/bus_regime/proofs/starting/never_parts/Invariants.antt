use Rattle.std.proofs.Common.{◌≡◌, ◌+◌, true, take}
use Rattle.std.specs.Prelude.{nat_le}
use Rattle.std.specs.List.{list_all}
use Rattle.bus_table.specs.Tables.{Sender}
use Rattle.bus_table.specs.Lengths.{longest}
use Rattle.bus_table.specs.Timers.{greatest_gap}
use Rattle.bus_regime.proofs.starting.never_parts.Given as goal

-- the messages of the senders so far are over in time
abbrev pub invariant-loop-sender : goal.invariant-loop-sender
invariant-loop-sender l =
    list_all (λ (s : Sender). nat_le (l.table.sg + greatest_gap l.table.senders + longest s) l.table.ti) (take l.sender-index l.sender-items) ≡ true
