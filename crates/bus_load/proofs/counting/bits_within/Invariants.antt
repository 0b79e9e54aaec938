use Rattle.std.proofs.Common.{◌≡◌, take, sum_by}
use Rattle.bus_load.proofs.CountLemmas.{part_of}
use Rattle.bus_load.proofs.counting.bits_within.Given as goal

abbrev pub invariant-loop-stretch : goal.invariant-loop-stretch
invariant-loop-stretch l = l.bits ≡ sum_by (part_of l.from l.to) (take l.stretch-index l.stretch-items)
