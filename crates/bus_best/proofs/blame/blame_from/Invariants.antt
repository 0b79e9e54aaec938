use Rattle.std.specs.Prelude.{◌≡◌, ◌-◌}
use Rattle.bus_best.specs.Blames.{blame_from}
use Rattle.bus_best.proofs.blame.blame_from.Given as goal

-- those from here on tell
abbrev pub invariant-loop-sg : goal.invariant-loop-sg
invariant-loop-sg l = blame_from l.bounds l.count l.sg (1025 - l.sg) ≡ blame_from l.bounds l.count l.whole (1025 - l.whole)
