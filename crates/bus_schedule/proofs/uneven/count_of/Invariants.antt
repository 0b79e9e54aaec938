use Rattle.std.proofs.Common.{◌≡◌, drop}
use Rattle.bus_schedule.specs.Uneven.{count_of as number_of_messages}
use Rattle.bus_schedule.proofs.uneven.count_of.Given as goal

-- none of the hands so far is the terminal's
abbrev pub invariant-loop-hand : goal.invariant-loop-hand
invariant-loop-hand l = number_of_messages (drop l.hand-index l.hands) l.number ≡ number_of_messages l.hands l.number
