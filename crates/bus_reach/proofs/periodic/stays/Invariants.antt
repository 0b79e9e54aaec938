use Rattle.std.proofs.Common.{◌≡◌, ◌≤◌, drop}
use Rattle.std.specs.Prelude.{IfSome, Some}
use Rattle.bus_regime.specs.Gaps.{gaps}
use Rattle.bus_schedule.specs.Slack.{stays}
use Rattle.bus_reach.proofs.Rotating.{around}
use Rattle.bus_reach.proofs.periodic.stays.Given as goal

-- the walk so far has left this slack
abbrev pub invariant-loop-step : goal.invariant-loop-step
invariant-loop-step l = record {
  same : stays l.d l.table.sg l.number (Some 0) (around l.k (gaps l.table)) ≡ stays l.d l.table.sg l.number l.slack (drop l.step (around l.k (gaps l.table)));
  within : IfSome l.slack (λ slack. slack ≤ l.d);
}
