use Rattle.std.proofs.Common.{◌≡◌, drop}
use Rattle.std.specs.Prelude.{◌==◌}
use Rattle.std.specs.List.{list_any}
use Rattle.bus_table.specs.Tables.{Sender}
use Rattle.bus_advice.proofs.cycles.is_taken.Given as goal

-- none so far has this terminal gap
abbrev pub invariant-loop-sender : goal.invariant-loop-sender
invariant-loop-sender l =
    list_any (λ (s : Sender). s.tg == l.tg) l.senders ≡ list_any (λ (s : Sender). s.tg == l.tg) (drop l.sender-index l.senders)
