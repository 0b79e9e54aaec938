use Rattle.std.proofs.Common.{◌≡◌, take}
use Rattle.bus_cable_plan.specs.Shapes.{greatest_tg, second_tg}
use Rattle.bus_cable_plan.proofs.shape.greatest_gaps.Given as goal

-- the two greatest so far
abbrev pub invariant-loop-sender : goal.invariant-loop-sender
invariant-loop-sender l = (l.first ≡ greatest_tg (take l.sender-index l.senders)) × (l.second ≡ second_tg (take l.sender-index l.senders))
