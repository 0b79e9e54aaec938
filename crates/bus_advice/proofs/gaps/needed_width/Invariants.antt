use Rattle.std.proofs.Common.{◌≡◌, ◌+◌, drop}
use Rattle.std.specs.Prelude.{◌||◌, ◌≤◌}
use Rattle.std.specs.List.{list_any, count_by}
use Rattle.bus_regime.specs.Gaps.{gaps, has_width}
use Rattle.bus_regime.specs.Verdicts.{is_small}
use Rattle.bus_advice.specs.inside.InnerGaps.{inner_gaps, has_room}
use Rattle.bus_advice.proofs.gaps.needed_width.Given as goal

-- what is found so far, with what is to come, is found of all
abbrev pub invariant-loop-k : goal.invariant-loop-k
invariant-loop-k l = record {
  small : list_any is_small (inner_gaps l.table) ≡ list_any is_small (drop l.k (gaps l.table));
  room : list_any (has_room l.sg) (inner_gaps l.table) ≡ (l.room || list_any (has_room l.sg) (drop l.k (gaps l.table)));
  wide : count_by (has_width l.sg) (inner_gaps l.table) ≡ l.wide + count_by (has_width l.sg) (drop l.k (gaps l.table));
  few : l.wide ≤ l.k;
}
