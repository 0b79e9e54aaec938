use Rattle.std.proofs.Common.{◌≡◌, ◌≤◌, ◌*◌, ◌+◌, take}
use Rattle.bus_plan.specs.inside.Walks as walks
use Rattle.bus_plan.proofs.walk.planned_offsets.Given as goal

-- the walk so far, with room for more turns than there can be
abbrev pub invariant-loop-sender : goal.invariant-loop-sender
invariant-loop-sender l = record {
  walked : l.offsets.items ≡ walks.walk l.first l.second l.at (l.at + walks.longest_with l.second l.senders)
      (take l.sender-index l.senders);
  ended : l.end ≡ walks.walk_end l.first l.second (l.at + walks.longest_with l.second l.senders) (take l.sender-index l.senders);
  room : l.end ≤ 400000 + 159716 * l.sender-index;
}
