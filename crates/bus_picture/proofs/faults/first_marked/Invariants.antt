use Rattle.std.proofs.Common.{◌≡◌, [], take}
use Rattle.bus_picture.specs.Faults.{faults}
use Rattle.bus_picture.proofs.faults.first_marked.Given as goal

-- none so far
abbrev pub invariant-loop-i : goal.invariant-loop-i
invariant-loop-i l = faults l.scale (take l.i l.list) l.judgements ≡ []
