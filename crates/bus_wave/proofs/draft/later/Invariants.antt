use Rattle.std.proofs.Common.{◌≡◌, ◌≤◌, ◌*◌, take}
use Rattle.bus_wave.specs.Judging as judging
use Rattle.bus_wave.proofs.draft.later.Given as goal

abbrev pub invariant-loop-line : goal.invariant-loop-line
invariant-loop-line l = record {
  value : l.bits ≡ judging.later (take l.line-index l.left);
  few : l.bits ≤ 1400000 * l.line-index;
}
