use Rattle.std.proofs.Common.{◌≡◌, [], take, drop}
use Rattle.bus_regime.specs.Gaps.{gaps}
use Rattle.bus_schedule.specs.Slack.{all_stay}
use Rattle.bus_reach.proofs.periodic.gaps_bear.Given as goal

-- all so far stay in sync
abbrev pub invariant-loop-k : goal.invariant-loop-k
invariant-loop-k l = all_stay l.d l.table.sg [] (gaps l.table) ≡ all_stay l.d l.table.sg (take l.k (gaps l.table)) (drop l.k (gaps l.table))
