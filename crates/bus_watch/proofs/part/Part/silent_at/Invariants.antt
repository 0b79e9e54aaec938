use Rattle.std.specs.Prelude.{fold}
use Rattle.std.proofs.Common.{◌≡◌, take}
use Rattle.bus_watch.specs.Parts.{with_silent}
use Rattle.bus_watch.proofs.part.Part.silent_at.Given as goal

-- by the senders so far
abbrev pub invariant-loop-k : goal.invariant-loop-k
invariant-loop-k l = l.silent ≡ fold (with_silent l.self l.bit) l.self.silent (take l.k l.senders)
