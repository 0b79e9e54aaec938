use Rattle.std.proofs.Common.{take}
use Rattle.bus_vote.specs.inside.Walks.{IsReach}
use Rattle.bus_vote.proofs.cursor.reach_to.Given as goal

-- the transmissions so far reach to here
abbrev pub invariant-loop-at : goal.invariant-loop-at
invariant-loop-at l = IsReach (take l.at l.list) l.reach
