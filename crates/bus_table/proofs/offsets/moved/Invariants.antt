use Rattle.std.proofs.Common.{◌≡◌, take}
use Rattle.bus_table.specs.Offsets.{at_offsets}
use Rattle.bus_table.proofs.offsets.moved.Given as goal

abbrev pub invariant-loop-i : goal.invariant-loop-i
invariant-loop-i l = l.made.items ≡ at_offsets (take l.i l.offsets) (take l.i l.senders)
