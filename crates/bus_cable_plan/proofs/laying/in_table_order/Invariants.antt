use Rattle.std.proofs.Common.{◌≡◌, take, get_or}
use Rattle.std.specs.Prelude.{map}
use Rattle.bus_cable_plan.proofs.laying.in_table_order.Given as goal

-- the offsets so far
abbrev pub invariant-loop-sender : goal.invariant-loop-sender
invariant-loop-sender l = l.made.items ≡ map (λ sender. get_or l.offsets sender.number 0) (take l.sender-index l.senders)
