use Rattle.std.proofs.Common.{◌≡◌, drop, max}
use Rattle.bus_dropout.specs.DropOut.{most_messages}
use Rattle.bus_dropout.proofs.left.most_messages.Given as goal

-- with the hands that are left it becomes the greatest of all
abbrev pub invariant-loop-hand : goal.invariant-loop-hand
invariant-loop-hand l = max l.most (most_messages (drop l.hand-index l.hands)) ≡ most_messages l.hands
