use Rattle.std.proofs.Common.{◌<◌, length, get_or, arith, sym, subst, ap, ◌∙◌}
use Rattle.bus_dump.specs.inside.SenderTimers.{IsLow, passed}
use Rattle.bus_dump.specs.inside.TimerWalks.{timers_passed}
use Rattle.bus_dump.proofs.PassLemmas.{mapped_all, mapped_more, same_next}
use Rattle.bus_dump.proofs.AllTimerLemmas.{no_timers, low_at}
use Rattle.bus_dump.proofs.all_timers.pass_all.Goals as goal

pub passed-requires-clause-low : goal.passed-requires-clause-low
passed-requires-clause-low c =
    let f = timers_passed c.args.t c.args.live.now c.args.from c.args.to c.args.carrier in
    let i = c.loop-sender_timers.sender_timers-index in
    let within : i < length c.args.all_timers.now = omega (arith, c.loop-sender_timers.invariant.same_length) in
    subst IsLow (sym (same_next f c.args.all_timers.now c.loop-sender_timers.all_timers i no_timers c.loop-sender_timers.invariant))
    (low_at c.args.all_timers.now i no_timers within c.requires.low)

pub loop-sender_timers-preserved : goal.loop-sender_timers-preserved
loop-sender_timers-preserved c =
    let f = timers_passed c.args.t c.args.live.now c.args.from c.args.to c.args.carrier in
    let i = c.loop-sender_timers.sender_timers-index in
    let within : i < length c.loop-sender_timers.all_timers = omega arith in
    mapped_more f c.args.all_timers.now c.loop-sender_timers.all_timers i c.passed.result no_timers c.loop-sender_timers.invariant within
    (c.passed.ensures ∙ ap (λ s. passed c.args.from c.args.to s c.args.carrier (get_or c.loop-sender_timers.all_timers i no_timers)) c.begins-starts.ensures)

pub returns : goal.returns
returns c =
    mapped_all (timers_passed c.args.t c.args.live.now c.args.from c.args.to c.args.carrier) c.args.all_timers.now c.loop-sender_timers.all_timers
    c.loop-sender_timers.sender_timers-index c.loop-sender_timers.invariant (omega arith)
