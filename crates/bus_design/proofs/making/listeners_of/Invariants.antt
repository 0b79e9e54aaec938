use Rattle.std.proofs.Common.{◌≡◌, take}
use Rattle.bus_design.proofs.making.listeners_of.Given as goal

abbrev pub invariant-loop-listener : goal.invariant-loop-listener
invariant-loop-listener l = l.made.items ≡ take l.listener-index l.listeners
