use Rattle.std.specs.Prelude.{count_by, nat_lt, length}
use Rattle.std.proofs.Common.{◌≡◌, ◌≤◌, take}
use Rattle.bus_findings.specs.Terminals.{own}
use Rattle.bus_findings.proofs.writing.first_count.Given as goal

-- of the senders so far
abbrev pub invariant-loop-k : goal.invariant-loop-k
invariant-loop-k l = record {
  count : l.firsts ≡ count_by (λ sender. nat_lt 0 (length (own l.trace.list sender.number))) (take l.k l.table.senders);
  few : l.firsts ≤ l.k;
}
