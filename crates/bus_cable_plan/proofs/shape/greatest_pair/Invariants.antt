use Rattle.std.proofs.Common.{◌≡◌, ◌≤◌, drop}
use Rattle.bus_table.specs.Ranges.{most_tg}
use Rattle.bus_table.specs.Turns.{turn_order}
use Rattle.bus_cable_plan.specs.Shapes.{pair_from, greatest_pair}
use Rattle.bus_cable_plan.proofs.shape.greatest_pair.Given as goal

-- the pair so far, and those to come
abbrev pub invariant-loop-k : goal.invariant-loop-k
invariant-loop-k l = record {
  same : greatest_pair (turn_order l.table) ≡ pair_from l.best l.first l.before (drop l.k (turn_order l.table));
  before : l.before ≤ most_tg;
  best_before : l.best.before ≤ most_tg;
  best_behind : l.best.behind ≤ most_tg;
}
