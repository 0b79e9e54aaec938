use Rattle.std.proofs.Common.{◌<◌, length, get_or, arith}
use Rattle.std.proofs.lemmas.Option.{slice_get-get_or}
use Rattle.bus_medium.specs.declared.timers.Timers.{Timers}
use Rattle.bus_medium.proofs.TimersLemmas.{least_none, least_more, least_all}
use Rattle.bus_medium.proofs.turns.settled_idle.Goals as goal

pub loop-timers-init : goal.loop-timers-init
loop-timers-init c = least_none 4294967295 c.args.all_timers.now

pub loop-timers-preserved : goal.loop-timers-preserved
loop-timers-preserved c =
    let i = c.loop-timers.timers-index in
    let none : Timers = record { sg = 0; tg = 0; told = 0; due = 0; behind = 0; over = 0 } in
    let within : i < length c.args.all_timers.now = omega arith in
    least_more c.loop-timers.least c.min-least.result c.args.all_timers.now i (get_or c.args.all_timers.now i none) c.loop-timers.invariant (slice_get-get_or c.args.all_timers.now i none within) (omega arith) (omega arith)

pub returns-clause-least : goal.returns-clause-least
returns-clause-least c = least_all c.loop-timers.least c.args.all_timers.now c.loop-timers.timers-index c.loop-timers.invariant (omega arith)
