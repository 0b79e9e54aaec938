use Rattle.std.proofs.Common.{length, ◌-◌, ◌≡◌, ◌+◌, ◌^◌, ◌<◌, ◌≤◌, take}
use Rattle.bus_strings.specs.Members.{In}
use Rattle.bus_strings.specs.Messages.{Entry}
use Rattle.bus_findings.specs.Amounts.{greatest}
use Rattle.bus_findings.specs.Recorded.{recorded, reach}
use Rattle.bus_findings.proofs.heard.Heard.at_moment.Given as goal

-- those that have begun so far
abbrev pub invariant-loop-begun : goal.invariant-loop-begun
invariant-loop-begun l = record {
  within : l.begun ≤ length l.list;
  end : l.end ≡ greatest (λ r. r.soonest) (recorded l.bounds (take l.begun l.list));
  bound : l.end < 2 ^ 41;
  each : (x : Entry) → In x (take l.begun l.list) → x.moment + reach l.bounds < l.moment;
}

abbrev pub decreases-loop-begun : goal.decreases-loop-begun
decreases-loop-begun l = length l.list - l.begun
