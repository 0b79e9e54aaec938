use Rattle.std.proofs.Common.{◌≡◌, ◌≤◌, ◌^◌, take}
use Rattle.bus_findings.specs.Recorded.{longest_of}
use Rattle.bus_findings.proofs.lengths.longest_of.Given as goal

-- the longest so far
abbrev pub invariant-loop-sender : goal.invariant-loop-sender
invariant-loop-sender l = record {
  value : l.most ≡ longest_of (take l.sender-index l.senders);
  bound : l.most ≤ 2 ^ 18;
}
