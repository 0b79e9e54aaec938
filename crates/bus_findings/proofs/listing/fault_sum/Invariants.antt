use Rattle.std.specs.Prelude.{sum_by}
use Rattle.std.proofs.Common.{◌≡◌, ◌≤◌, ◌*◌, take}
use Rattle.bus_findings.specs.Terminals.{fault_count}
use Rattle.bus_findings.proofs.listing.fault_sum.Given as goal

-- of those so far
abbrev pub invariant-loop-found : goal.invariant-loop-found
invariant-loop-found l = record {
  sum : l.faults ≡ sum_by fault_count (take l.found-index l.judgements);
  few : l.faults ≤ 6 * l.found-index;
}
