use Rattle.bus_strings.proofs.OverlapLemmas.{IsInOrderSoFar}
use Rattle.bus_strings.proofs.overlap.is_by_moment.Given as goal

abbrev pub invariant-loop-entry : goal.invariant-loop-entry
invariant-loop-entry l = IsInOrderSoFar l.list l.entry-index l.latest
