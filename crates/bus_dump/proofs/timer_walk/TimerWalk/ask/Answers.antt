use Rattle.std.proofs.Common.{sym, subst}
use Rattle.std.specs.List.{AllByRecursion}
use Rattle.bus_dump.specs.inside.SenderTimers.{IsLow}
use Rattle.bus_dump.proofs.timer_walk.TimerWalk.ask.Goals as goal

pub tell_all-requires-clause-low : goal.tell_all-requires-clause-low
tell_all-requires-clause-low c = subst (AllByRecursion IsLow) (sym c.as_slice-all_timers.ensures.value) c.requires.timer_walk.low

pub next_turn-turn-requires-clause-low : goal.next_turn-turn-requires-clause-low
next_turn-turn-requires-clause-low c = subst (AllByRecursion IsLow) (sym c.as_slice-all_timers.ensures.value) c.requires.timer_walk.low
