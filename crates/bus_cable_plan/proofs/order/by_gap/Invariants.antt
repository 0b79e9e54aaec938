use Rattle.std.proofs.Common.{◌≡◌, ◌-◌, take}
use Rattle.std.specs.Prelude.{map}
use Rattle.bus_table.specs.Ranges.{most_tg}
use Rattle.bus_cable_plan.proofs.order.by_gap.Given as goal

-- the offsets so far
abbrev pub invariant-loop-sender : goal.invariant-loop-sender
invariant-loop-sender l = l.offsets.items ≡ map (λ sender. most_tg - sender.tg) (take l.sender-index l.senders)
