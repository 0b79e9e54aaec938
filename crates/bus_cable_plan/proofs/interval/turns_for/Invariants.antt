use Rattle.std.proofs.Common.{◌≡◌, ◌≤◌, ◌*◌, take}
use Rattle.std.specs.List.{sum_by}
use Rattle.bus_cable_plan.specs.Plans.{turn_time}
use Rattle.bus_cable_plan.proofs.interval.turns_for.Given as goal

-- the turns so far, with room for more than there can be
abbrev pub invariant-loop-sender : goal.invariant-loop-sender
invariant-loop-sender l = (l.sum ≡ sum_by (turn_time l.d) (take l.sender-index l.table.senders)) × (l.sum ≤ 400000 * l.sender-index)
