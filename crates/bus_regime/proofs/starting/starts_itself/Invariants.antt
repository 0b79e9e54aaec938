use Rattle.std.proofs.Common.{◌≡◌, ◌+◌, true, take}
use Rattle.std.specs.Prelude.{nat_le}
use Rattle.std.specs.List.{list_all}
use Rattle.bus_table.specs.Tables.{Sender}
use Rattle.bus_table.specs.Lengths.{shortest}
use Rattle.bus_regime.proofs.starting.starts_itself.Given as goal

-- the senders so far are free
abbrev pub invariant-loop-sender : goal.invariant-loop-sender
invariant-loop-sender l = list_all (λ (s : Sender). nat_le l.table.ti (l.table.sg + s.tg + shortest s)) (take l.sender-index l.sender-items) ≡ true
