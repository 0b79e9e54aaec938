use Rattle.std.proofs.Common.{◌≤◌, ◌<◌, ◌+◌, ◌^◌, arith, refl}
use Rattle.bus_medium.specs.inside.Lazy.{clock_of}
use Rattle.bus_medium.proofs.LazyStarts.{begin_none, begin_some, begin_moves, after_hearing}
use Rattle.bus_medium.proofs.starting.begin.Goals as goal

pub returns-then-ready_at-now-clause-begun : goal.returns-then-ready_at-now-clause-begun
returns-then-ready_at-now-clause-begun g c =
    let early : c.args.quiet + c.args.moment < (clock_of c.args.ended c.args.timers.now).ready = omega (arith, c.if-ready_at-now.true, c.ready_at.ensures) in
    begin_none g.C.Core c.args.quiet c.args.moment c.args.seat.now (clock_of c.args.ended c.args.timers.now) early

pub returns-clause-begun : goal.returns-clause-begun
returns-clause-begun g c =
    let now = c.args.quiet + c.args.moment in
    let ready : (clock_of c.args.ended c.args.timers.now).ready ≤ c.args.quiet + c.args.moment = omega (arith, c.if-ready_at-now.false, c.ready_at.ensures) in
    let small : c.args.quiet + c.args.moment < 2 ^ 62 = omega (arith, c.requires.moment, c.ranges.quiet.fits) in
    let idle = after_hearing g.C.Core now c.args.seat.now (record { timing = c.seat.inside.timing; terminal = c.seat.inside.terminal }) c.hear.new.self (clock_of c.args.ended c.args.timers.now) c.history.result
    c.seat.view_is (record { bits = c.history.ensures.bits; elapsed = c.history.ensures.elapsed; waiting = c.history.ensures.waiting })
    c.hear.ensures.told c.hear.ensures.passed c.hear.ensures.room c.hear.ensures.moves in
    let b = c.begun_timers.ensures in
    begin_some g.C.Core c.args.quiet c.args.moment c.args.seat.now (record { timing = c.seat.inside.timing; terminal = c.hear.new.self }) c.decide_one.new.seat (clock_of c.args.ended c.args.timers.now) (clock_of c.args.ended c.begun_timers.result)
    c.in_ok-begun.begun c.requires.sits ready small idle c.in_ok-begun.ensures.begun
    (record { sg = b.sg; tg = b.tg; told = b.told; due = b.due; gap = b.gap; ready = refl })

pub returns-clause-moves : goal.returns-clause-moves
returns-clause-moves g c =
    let now = c.args.quiet + c.args.moment in
    let ready : (clock_of c.args.ended c.args.timers.now).ready ≤ c.args.quiet + c.args.moment = omega (arith, c.if-ready_at-now.false, c.ready_at.ensures) in
    let small : c.args.quiet + c.args.moment < 2 ^ 62 = omega (arith, c.requires.moment, c.ranges.quiet.fits) in
    let idle = after_hearing g.C.Core now c.args.seat.now (record { timing = c.seat.inside.timing; terminal = c.seat.inside.terminal }) c.hear.new.self (clock_of c.args.ended c.args.timers.now) c.history.result
    c.seat.view_is (record { bits = c.history.ensures.bits; elapsed = c.history.ensures.elapsed; waiting = c.history.ensures.waiting })
    c.hear.ensures.told c.hear.ensures.passed c.hear.ensures.room c.hear.ensures.moves in
    begin_moves g.C.Core c.args.quiet c.args.moment c.args.seat.now (record { timing = c.seat.inside.timing; terminal = c.hear.new.self }) c.decide_one.new.seat (clock_of c.args.ended c.args.timers.now)
    c.in_ok-begun.begun c.requires.sits ready small idle c.in_ok-begun.ensures.begun
