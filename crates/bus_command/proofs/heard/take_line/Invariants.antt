use Rattle.std.proofs.Common.{◌-◌, ◌≡◌, ◌≤◌, ◌==◌, false, length, take}
use Rattle.std.specs.List.{AllByRecursion}
use Rattle.bus_outer.specs.Sources.{Taken}
use Rattle.bus_command.proofs.heard.take_line.Given as goal

-- what came so far is of one line
abbrev pub invariant-pieces : goal.invariant-pieces
invariant-pieces g l = record {
  taken : Taken (g.S.Source.left l.initial.source) (g.S.Source.left l.source) (take l.count l.line);
  feedless : AllByRecursion (λ b. (b == 10) ≡ false) (take l.count l.line);
  fits : l.count ≤ 32;
  room : length l.line ≡ 32;
  same : g.S.Source.faults l.source ≡ g.S.Source.faults l.initial.source;
}

abbrev pub decreases-pieces : goal.decreases-pieces
decreases-pieces g l = 32 - l.count
