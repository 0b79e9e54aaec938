use Rattle.std.proofs.Common.{◌≡◌, take}
use Rattle.bus_table.proofs.offsets.copied.Given as goal

abbrev pub invariant-loop-listener : goal.invariant-loop-listener
invariant-loop-listener l = l.made.items ≡ take l.listener-index l.listeners
