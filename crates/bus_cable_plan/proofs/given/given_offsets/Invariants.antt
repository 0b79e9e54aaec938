use Rattle.std.proofs.Common.{◌≡◌, take}
use Rattle.std.specs.Prelude.{map}
use Rattle.bus_cable_plan.proofs.given.given_offsets.Given as goal

-- the offsets so far
abbrev pub invariant-loop-sender : goal.invariant-loop-sender
invariant-loop-sender l = l.offsets.items ≡ map (λ sender. sender.at) (take l.sender-index l.senders)
