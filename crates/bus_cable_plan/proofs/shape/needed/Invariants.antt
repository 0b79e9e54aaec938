use Rattle.std.proofs.Common.{◌≡◌, ◌≤◌, ◌*◌, take}
use Rattle.std.specs.List.{sum_by}
use Rattle.bus_cable_plan.specs.Shapes.{time_in}
use Rattle.bus_cable_plan.proofs.shape.needed.Given as goal

-- the gaps and messages so far, with room for more than there can be
abbrev pub invariant-loop-sender : goal.invariant-loop-sender
invariant-loop-sender l = (l.sum ≡ sum_by (time_in l.d l.shape) (take l.sender-index l.table.senders)) × (l.sum ≤ 400000 * l.sender-index)
