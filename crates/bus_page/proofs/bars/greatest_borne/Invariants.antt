use Rattle.std.proofs.Common.{◌≡◌, ◌≤◌, take}
use Rattle.bus_page.specs.Bars.{greatest_borne}
use Rattle.bus_page.proofs.bars.greatest_borne.Given as goal

abbrev pub invariant-loop-limit : goal.invariant-loop-limit
invariant-loop-limit l = record {
  value : l.most ≡ greatest_borne (take l.limit-index l.limits);
  some : 1 ≤ l.most;
}
