use Rattle.bus_dump.proofs.TouchLemmas.{TimersTouched}
use Rattle.bus_dump.proofs.touched.touch_timers.Given as goal

abbrev pub invariant-loop-k : goal.invariant-loop-k
invariant-loop-k l = TimersTouched l.fn.touched l.touched l.before l.now l.k
