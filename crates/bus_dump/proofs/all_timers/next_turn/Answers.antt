use Rattle.std.proofs.Common.{◌≡◌, ◌≤◌, get_or, arith, ap, subst, ◌∙◌}
use Rattle.std.proofs.lemmas.List.{take_all}
use Rattle.std.specs.List.{AllByRecursion}
use Rattle.bus_dump.specs.declared.sender_timers.SenderTimers.{SenderTimers}
use Rattle.bus_dump.specs.inside.SenderTimers.{next_turn}
use Rattle.bus_dump.specs.inside.TimerWalks.{timer_turn}
use Rattle.bus_dump.proofs.SenderTimerLemmas.{turn_later}
use Rattle.bus_dump.proofs.AllTimerLemmas.{no_timers, least_more, low_at}
use Rattle.bus_dump.proofs.all_timers.next_turn.Goals as goal

pub next_turn-requires-clause-low : goal.next_turn-requires-clause-low
next_turn-requires-clause-low c = low_at c.args.all_timers.now c.loop-sender_timers.sender_timers-index no_timers c.loop-sender_timers-test.true c.requires.low

pub loop-sender_timers-preserved : goal.loop-sender_timers-preserved
loop-sender_timers-preserved c =
    let i = c.loop-sender_timers.invariant in
    let sender_timers : SenderTimers = get_or c.args.all_timers.now c.loop-sender_timers.sender_timers-index no_timers in
    let turn = turn_later sender_timers c.args.place c.args.limit c.begins-starts.result c.args.carrier c.requires.later in
    let is : c.next_turn.result ≡ next_turn c.args.place c.args.limit c.begins-starts.result c.args.carrier sender_timers = c.next_turn.ensures in
    record {
      later = omega (arith, i.later, turn.0, is, c.min-next.ensures);
      most = omega (arith, i.most, c.min-next.ensures);
      least = least_more (timer_turn c.args.t c.args.live.now c.args.place c.args.limit c.args.carrier) c.args.all_timers.now c.loop-sender_timers.sender_timers-index no_timers c.loop-sender_timers.next
          c.next_turn.result c.min-next.result c.loop-sender_timers-test.true i.least
          (is ∙ ap (λ s. next_turn c.args.place c.args.limit s c.args.carrier sender_timers) c.begins-starts.ensures) (omega (arith, c.min-next.ensures)) (omega (arith, c.min-next.ensures));
    }

pub returns-clause-least : goal.returns-clause-least
returns-clause-least c =
    subst (AllByRecursion (λ sender_timers. c.loop-sender_timers.next ≤ timer_turn c.args.t c.args.live.now c.args.place c.args.limit c.args.carrier sender_timers))
    (take_all c.loop-sender_timers.sender_timers-index c.args.all_timers.now c.loop-sender_timers-test.false) c.loop-sender_timers.invariant.least
