use Rattle.std.proofs.Common.{ap, ◌∙◌}
use Rattle.arrayvec.specs.ArrayVec.{ArrayVec}
use Rattle.bus_strings.specs.Transmissions.{carrier}
use Rattle.bus_dump.specs.declared.sender_timers.SenderTimers.{SenderTimers}
use Rattle.bus_dump.specs.declared.walk.Walk.{Walk}
use Rattle.bus_dump.proofs.TimerWalkLemmas.{asked, asked_told, lasts_on}
use Rattle.bus_dump.proofs.timer_walk.TimerWalk.attend.Goals as goal

pub returns-then-due-clause-lasts : goal.returns-then-due-clause-lasts
returns-then-due-clause-lasts c =
    let brought = c.bring.new.self in
    asked c.args.t c.args.limit brought.quiet c.args.carrier c.ask.new.self brought.walk brought.all_timers.items c.ask.ensures.walk
    c.bring.ensures.timer_walk.walkable c.bring.ensures.timer_walk.stands c.ask.ensures.since c.ask.ensures.starting c.ask.ensures.carrier
    (ap (λ (w : Walk). carrier w.list.now c.args.t) c.bring.ensures.walk ∙ c.requires.carrier) c.ask.ensures.quiet
    (ap (λ (v : ArrayVec SenderTimers). v.items) c.ask.ensures.all_timers) c.ask.ensures.later c.requires.later c.ask.ensures.turns

pub returns-then-due-clause-told : goal.returns-then-due-clause-told
returns-then-due-clause-told c table senders keeping before =
    asked_told c.test_decides.ensures table c.args.t senders c.bring.new.self c.ask.new.self c.ask.new.timers.items c.ask.ensures.walk
    c.ask.ensures.quiet (ap (λ (v : ArrayVec SenderTimers). v.items) c.ask.ensures.all_timers) c.bring.ensures.since c.ask.ensures.since c.ask.ensures.told
    (c.bring.ensures.keeping table senders keeping)

pub returns-else-due-clause-lasts : goal.returns-else-due-clause-lasts
returns-else-due-clause-lasts c =
    (lasts_on c.args.t c.args.carrier c.args.self.now c.requires.timer_walk c.requires.ready c.requires.carrier (c.is_due-due.ensures c.if-due.false)).1

pub returns-else-due-clause-told : goal.returns-else-due-clause-told
returns-else-due-clause-told c table senders keeping before =
    let past =
    (lasts_on c.args.t c.args.carrier c.args.self.now c.requires.timer_walk c.requires.ready c.requires.carrier (c.is_due-due.ensures c.if-due.false)).0 in
    (keeping, before past)
