use Rattle.bus_dump.proofs.TouchLemmas.{SeenTouched}
use Rattle.bus_dump.proofs.touched.touch_seen.Given as goal

abbrev pub invariant-loop-one : goal.invariant-loop-one
invariant-loop-one l = SeenTouched l.fn.touched l.touched l.seen l.one-index
