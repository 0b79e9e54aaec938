use Rattle.std.proofs.Common.{◌≡◌}
use Rattle.bus_vote.specs.inside.Walks.{sent_from}
use Rattle.bus_vote.proofs.cursor.next_place.Given as goal

-- none of the transmissions so far is the terminal's
abbrev pub invariant-loop-at : goal.invariant-loop-at
invariant-loop-at l = sent_from l.terminal l.list l.from ≡ sent_from l.terminal l.list l.at
