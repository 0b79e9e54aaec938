use Rattle.std.proofs.Common.{◌≡◌, length, take}
use Rattle.bus_vote.specs.inside.Finds.{finds_before}
use Rattle.bus_vote.specs.inside.Walks.{IsReach}
use Rattle.bus_vote.proofs.FindLemmas.{IsCount}
use Rattle.bus_vote.proofs.finds.find_all.Given as goal

-- the transmissions so far are counted by terminal, and their finds are added
abbrev pub invariant-loop-at : goal.invariant-loop-at
invariant-loop-at l = record {
  ends : IsReach (take l.at l.list) l.reach;
  sent_long : length l.sent ≡ 129;
  counted : IsCount l.list l.at l.sent;
  found : l.finds.items ≡ finds_before l.wanted l.list l.at;
}
