use Rattle.std.proofs.Common.{◌≡◌, drop}
use Rattle.bus_made.specs.Wishes.{wish_of}
use Rattle.bus_made.proofs.wish.wish_of.Given as goal

-- none before is of this terminal
abbrev pub invariant-loop-wish : goal.invariant-loop-wish
invariant-loop-wish l = wish_of (drop l.wish-index l.wishes) l.number ≡ wish_of l.wishes l.number
