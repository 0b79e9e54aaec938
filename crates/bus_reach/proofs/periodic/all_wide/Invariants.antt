use Rattle.std.proofs.Common.{◌≡◌, ◌≤◌, ◌<◌, ◌^◌, drop}
use Rattle.std.specs.List.{list_all}
use Rattle.bus_regime.specs.Gaps.{gaps}
use Rattle.bus_schedule.specs.Slack.{is_wide}
use Rattle.bus_reach.proofs.periodic.all_wide.Given as goal

-- all so far are wide
abbrev pub invariant-loop-k : goal.invariant-loop-k
invariant-loop-k l = record {
  same : list_all (is_wide l.d) (gaps l.table) ≡ list_all (is_wide l.d) (drop l.k (gaps l.table));
  bound : 0 < l.k → l.d ≤ 2 ^ 40;
}
