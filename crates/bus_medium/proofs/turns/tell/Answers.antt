use Rattle.bus_medium.specs.inside.Lazy.{clock_of}
use Rattle.bus_medium.proofs.LazyStarts.{after_hearing, heard_told}
use Rattle.bus_medium.proofs.turns.tell.Goals as goal

pub returns : goal.returns
returns g c =
    let idle = after_hearing g.C.Core c.args.now c.args.seat.now (record { timing = c.seat.inside.timing; terminal = c.seat.inside.terminal }) c.hear.new.self (clock_of c.args.ended c.args.timers.now) c.history.result
    c.seat.view_is (record { bits = c.history.ensures.bits; elapsed = c.history.ensures.elapsed; waiting = c.history.ensures.waiting })
    c.hear.ensures.told c.hear.ensures.passed c.hear.ensures.room c.hear.ensures.moves in
    heard_told g.C.Core c.args.quiet c.args.now c.args.seat.now (record { timing = c.seat.inside.timing; terminal = c.hear.new.self }) (clock_of c.args.ended c.args.timers.now) c.requires.sits idle
