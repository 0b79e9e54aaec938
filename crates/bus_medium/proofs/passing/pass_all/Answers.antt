use Rattle.std.proofs.Common.{◌<◌, length, get_or, arith}
use Rattle.std.proofs.lemmas.Option.{slice_get-get_or}
use Rattle.bus_medium.specs.declared.timers.Timers.{Timers}
use Rattle.bus_medium.proofs.Stretching.{each_more, each_all}
use Rattle.bus_medium.proofs.TimersLemmas.{Passed, passed_now, passed_after, passed_kept}
use Rattle.bus_medium.proofs.passing.pass_all.Goals as goal

pub loop-timers-preserved : goal.loop-timers-preserved
loop-timers-preserved c =
    let i = c.loop-timers.timers-index in
    let none : Timers = record { sg = 0; tg = 0; told = 0; due = 0; behind = 0; over = 0 } in
    let within : i < length c.loop-timers.all_timers = omega arith in
    let h = c.hear_busy.ensures in
    let old = get_or c.loop-timers.all_timers i none in
    let new = c.hear_busy.new.self in
    each_more (Passed c.args.ended c.args.from c.args.to) c.args.all_timers.now c.loop-timers.all_timers i old new c.loop-timers.invariant within
    (slice_get-get_or c.loop-timers.all_timers i none within) (passed_now c.args.ended c.args.from c.args.to old new h.clock h.counted h.near h.over)

pub returns-clause-after : goal.returns-clause-after
returns-clause-after c =
    passed_after c.args.ended c.args.from c.args.to c.args.all_timers.now c.loop-timers.all_timers
    (each_all (Passed c.args.ended c.args.from c.args.to) c.args.all_timers.now c.loop-timers.all_timers c.loop-timers.timers-index c.loop-timers.invariant (omega arith))

pub returns-clause-kept : goal.returns-clause-kept
returns-clause-kept c =
    passed_kept c.args.ended c.args.from c.args.to c.args.all_timers.now c.loop-timers.all_timers
    (each_all (Passed c.args.ended c.args.from c.args.to) c.args.all_timers.now c.loop-timers.all_timers c.loop-timers.timers-index c.loop-timers.invariant (omega arith))
