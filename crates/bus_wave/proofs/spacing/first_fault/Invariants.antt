use Rattle.std.proofs.Common.{◌≡◌, drop}
use Rattle.bus_wave.specs.Spacing.{spaced_from}
use Rattle.bus_wave.proofs.spacing.first_fault.Given as goal

-- nothing is wrong with the entries so far
abbrev pub invariant-loop-entry : goal.invariant-loop-entry
invariant-loop-entry l = record {
  left : spaced_from l.table.senders l.trace.horizon l.from l.k (drop l.entry-index l.trace.list)
      ≡ spaced_from l.table.senders l.trace.horizon 0 0 l.trace.list;
  number : l.k ≡ l.entry-index;
}
