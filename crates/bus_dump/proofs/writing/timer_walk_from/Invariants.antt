use Rattle.std.proofs.Common.{◌≡◌, ◌<◌, ◌≤◌, ◌-◌}
use Rattle.bus_dump.specs.Scenes.{timed}
use Rattle.bus_dump.specs.inside.TimerWalks.{IsReady, IsTold, IsTimerWalk, Keeping}
use Rattle.bus_dump.proofs.writing.timer_walk_from.Given as goal

-- the walk stands at bit time t, which isn't behind the one that is wanted
abbrev pub invariant-loop-t : goal.invariant-loop-t
invariant-loop-t l = record {
  list : l.timer_walk.walk.list.now ≡ l.list;
  breach : l.timer_walk.breach ≡ l.fn.breach;
  timer_walk : IsTimerWalk l.t l.timer_walk;
  ready : IsReady l.t l.timer_walk;
  keeping : Keeping l.table (timed l.fn.dump l.table) l.timer_walk;
  told : l.timer_walk.since < l.t → IsTold l.table (timed l.fn.dump l.table) l.timer_walk l.now.timers.items;
  low : l.t ≤ l.from;
}

abbrev pub decreases-loop-t : goal.decreases-loop-t
decreases-loop-t l = l.from - l.t
