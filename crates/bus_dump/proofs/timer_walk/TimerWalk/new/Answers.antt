use Rattle.std.proofs.Common.{List, arith, sym, subst}
use Rattle.std.specs.List.{AllByRecursion}
use Rattle.bus_table.specs.Tables.{Sender}
use Rattle.bus_dump.specs.inside.SenderTimers.{IsLow}
use Rattle.bus_dump.specs.Scenes.{timed}
use Rattle.bus_dump.specs.inside.TimerWalks.{AreAllTimersOf}
use Rattle.bus_dump.proofs.AllTimerLemmas.{all_low, all_settled}
use Rattle.bus_dump.proofs.timer_walk.TimerWalk.new.Goals as goal

pub returns-clause-timer_walk : goal.returns-clause-timer_walk
returns-clause-timer_walk c = record {
  walkable = c.begin_all.ensures.walkable;
  stands = c.begin_all.ensures.stands;
  quiet = omega arith;
  low = subst (AllByRecursion IsLow) (sym c.settle.ensures.items) (all_low c.args.table.now (timed c.args.dump c.args.table.now) c.settle.ensures.sound);
}

pub returns-clause-keeping : goal.returns-clause-keeping
returns-clause-keeping c =
    let senders : List Sender = timed c.args.dump c.args.table.now in (
      omega (arith, c.quiet.ensures.value),
      subst (AreAllTimersOf c.args.table.now c.begin_all.new.self.list.now 0 senders) (sym c.settle.ensures.items)
          (all_settled c.args.table.now c.begin_all.new.self.list.now senders c.settle.ensures.sound),
    )
