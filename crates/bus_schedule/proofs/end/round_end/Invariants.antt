use Rattle.std.proofs.Common.{◌≡◌, take}
use Rattle.bus_strings.specs.Marking.{greatest_end}
use Rattle.bus_schedule.specs.Closed.{offset_turns}
use Rattle.bus_schedule.specs.Even.{messages_of}
use Rattle.bus_schedule.proofs.end.round_end.Given as goal

-- the latest of the turns so far
abbrev pub invariant-loop-k : goal.invariant-loop-k
invariant-loop-k l = l.end ≡ greatest_end (offset_turns (messages_of l.hands) l.round (take l.k l.sender-items) l.base)
