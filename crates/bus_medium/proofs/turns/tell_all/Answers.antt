use Rattle.std.proofs.Common.{◌<◌, length, get_or, arith}
use Rattle.std.proofs.lemmas.Option.{slice_get-get_or}
use Rattle.bus_medium.specs.declared.timers.Timers.{Timers}
use Rattle.bus_medium.specs.inside.Lazy.{clock_of, clocks_of}
use Rattle.bus_medium.proofs.TimersLemmas.{clock_at}
use Rattle.bus_medium.proofs.LazyLoops.{told_none, told_more, told_end, told_sits}
use Rattle.bus_medium.proofs.turns.tell_all.Goals as goal

pub loop-k-init : goal.loop-k-init
loop-k-init g c = told_none g.C.Core c.args.quiet c.args.now (clocks_of c.args.ended c.args.all_timers.now) c.args.seats.now

pub tell-requires-clause-sits : goal.tell-requires-clause-sits
tell-requires-clause-sits g c =
    let i = c.loop-k.k in
    let none : Timers = record { sg = 0; tg = 0; told = 0; due = 0; behind = 0; over = 0 } in
    let within : i < length c.loop-k.seats = omega (arith, c.loop-k.auto.seats) in
    let inside : i < length c.args.all_timers.now = omega (arith, c.loop-k.auto.seats, c.requires.long) in
    told_sits g.C.Core c.args.quiet c.args.now (clocks_of c.args.ended c.args.all_timers.now) c.args.seats.now c.loop-k.seats i (get_or c.loop-k.seats i c.index-seats-k.result) (clock_of c.args.ended (get_or c.args.all_timers.now i none)) c.loop-k.invariant c.requires.sit
    (slice_get-get_or c.loop-k.seats i c.index-seats-k.result within) (clock_at c.args.ended c.args.all_timers.now i (get_or c.args.all_timers.now i none) (slice_get-get_or c.args.all_timers.now i none inside))

pub loop-k-preserved : goal.loop-k-preserved
loop-k-preserved g c =
    let i = c.loop-k.k in
    let none : Timers = record { sg = 0; tg = 0; told = 0; due = 0; behind = 0; over = 0 } in
    let within : i < length c.loop-k.seats = omega (arith, c.loop-k.auto.seats) in
    let inside : i < length c.args.all_timers.now = omega (arith, c.loop-k.auto.seats, c.requires.long) in
    told_more g.C.Core c.args.quiet c.args.now (clocks_of c.args.ended c.args.all_timers.now) c.args.seats.now c.loop-k.seats i (get_or c.loop-k.seats i c.index-seats-k.result) c.tell.new.seat (clock_of c.args.ended (get_or c.args.all_timers.now i none)) c.loop-k.invariant within
    (slice_get-get_or c.loop-k.seats i c.index-seats-k.result within) (clock_at c.args.ended c.args.all_timers.now i (get_or c.args.all_timers.now i none) (slice_get-get_or c.args.all_timers.now i none inside)) c.tell.ensures

pub returns : goal.returns
returns g c = told_end g.C.Core c.args.quiet c.args.now (clocks_of c.args.ended c.args.all_timers.now) c.args.seats.now c.loop-k.seats c.loop-k.k c.loop-k.invariant (omega (arith, c.loop-k.auto.seats))
