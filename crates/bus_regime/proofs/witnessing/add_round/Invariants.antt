use Rattle.std.proofs.Common.{◌≡◌, ◌++◌, map, take}
use Rattle.bus_table.specs.Filling.{filling_item}
use Rattle.bus_regime.proofs.witnessing.add_round.Given as goal

-- the items of the senders so far
abbrev pub invariant-loop-sender : goal.invariant-loop-sender
invariant-loop-sender l = l.items.items ≡ l.fn.items.items ++ map (filling_item l.mode) (take l.sender-index l.senders)
