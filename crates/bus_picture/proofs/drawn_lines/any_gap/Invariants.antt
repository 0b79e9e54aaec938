use Rattle.std.proofs.Common.{◌≡◌, ◌≤◌, ◌^◌, false, take}
use Rattle.bus_picture.specs.Kinds.{has_gap_before}
use Rattle.bus_picture.specs.inside.Starting.{Hears, any_first}
use Rattle.bus_picture.proofs.drawn_lines.any_gap.Given as goal

abbrev pub invariant-loop-k : goal.invariant-loop-k
invariant-loop-k l = record {
  none : any_first (has_gap_before l.scale l.list l.timings) l.list l.k ≡ false;
  hears : Hears l.timings.quiet l.timings.sg l.timings.terminal (take l.k l.list) l.hearing;
  before : l.hearing.before.quiet_from ≤ 2 ^ 42;
  all : l.hearing.all.quiet_from ≤ 2 ^ 42;
}
