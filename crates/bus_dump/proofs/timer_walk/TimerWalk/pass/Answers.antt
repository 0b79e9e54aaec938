use Rattle.std.proofs.Common.{◌≡◌, ◌+◌, List, map, arith, sym, subst}
use Rattle.std.specs.List.{AllByRecursion}
use Rattle.arrayvec.specs.ArrayVec.{ArrayVec, with_items}
use Rattle.bus_dump.specs.declared.sender_timers.SenderTimers.{SenderTimers}
use Rattle.bus_dump.specs.inside.SenderTimers.{IsLow}
use Rattle.bus_dump.specs.inside.TimerWalks.{timers_passed}
use Rattle.bus_dump.proofs.AllTimerLemmas.{all_low_passed}
use Rattle.bus_dump.proofs.TimerWalkLemmas.{passed_is, timer_walk_passes}
use Rattle.bus_dump.proofs.PassLemmas.{written}
use Rattle.bus_dump.proofs.timer_walk.TimerWalk.pass.Goals as goal

pub pass_all-requires-clause-low : goal.pass_all-requires-clause-low
pass_all-requires-clause-low c = subst (AllByRecursion IsLow) (sym c.as_mut_slice.ensures.value) c.requires.timer_walk.low

pub returns-clause-timer_walk : goal.returns-clause-timer_walk
returns-clause-timer_walk c =
    let w = c.args.self.now in
    let q = w.quiet in
    let all_timers : List SenderTimers = w.all_timers.items in
    let passed : ArrayVec SenderTimers = with_items w.all_timers c.pass_all.new.all_timers in
    let is : passed.items ≡ map (timers_passed w.since w.starting.items (q + w.since) (q + c.args.t) w.carrier) all_timers =
    passed_is w.since (q + w.since) (q + c.args.t) w.carrier all_timers c.as_mut_slice.result.now c.pass_all.new.all_timers
    passed.items w.starting.items c.as_slice-starting.result.now c.as_mut_slice.ensures.value c.as_slice-starting.ensures.value c.pass_all.ensures
    (written w.all_timers c.as_mut_slice.result.now c.pass_all.new.all_timers _ c.as_mut_slice.ensures.value c.pass_all.ensures) in
    record {
      walkable = c.requires.timer_walk.walkable;
      stands = c.requires.timer_walk.stands;
      quiet = c.requires.timer_walk.quiet;
      low = subst (AllByRecursion IsLow) (sym is)
          (all_low_passed w.since w.starting.items (q + w.since) (q + c.args.t) w.carrier (omega (arith, c.requires.timer_walk.quiet, c.requires.later))
          (omega (arith, c.requires.timer_walk.quiet)) all_timers c.requires.timer_walk.low);
    }

pub returns-clause-keeping : goal.returns-clause-keeping
returns-clause-keeping c table senders keeping =
    let w = c.args.self.now in
    let q = w.quiet in
    let all_timers : List SenderTimers = w.all_timers.items in
    let passed : ArrayVec SenderTimers = with_items w.all_timers c.pass_all.new.all_timers in
    let is : passed.items ≡ map (timers_passed w.since w.starting.items (q + w.since) (q + c.args.t) w.carrier) all_timers =
    passed_is w.since (q + w.since) (q + c.args.t) w.carrier all_timers c.as_mut_slice.result.now c.pass_all.new.all_timers
    passed.items w.starting.items c.as_slice-starting.result.now c.as_mut_slice.ensures.value c.as_slice-starting.ensures.value c.pass_all.ensures
    (written w.all_timers c.as_mut_slice.result.now c.pass_all.new.all_timers _ c.as_mut_slice.ensures.value c.pass_all.ensures) in
    (keeping.0, timer_walk_passes table c.args.t senders w passed.items c.requires.timer_walk.walkable c.requires.later c.requires.lasts is keeping)
