use Rattle.std.proofs.Common.{List, sym, subst}
use Rattle.bus_medium.specs.declared.timers.Timers.{Timers}
use Rattle.bus_medium.specs.inside.Lazy.{EachKept}
use Rattle.bus_medium.proofs.turns.jump_all.Goals as goal

pub run_all-requires-clause-kept : goal.run_all-requires-clause-kept
run_all-requires-clause-kept g c = subst (λ (ws : List Timers). EachKept ws) (sym c.deref_mut.ensures.value) c.in_ok-all_timers.ensures.kept
