use Rattle.std.proofs.Common.{◌≡◌, ◌<◌, ◌≤◌, ◌+◌, ◌^◌, List, length, arith, sym, refl, ap, ◌∙◌, subst}
use Rattle.bus_strings.specs.Messages.{Entry}
use Rattle.bus_strings.specs.Transmissions.{carrier}
use Rattle.bus_medium.specs.BusyLaws.{IsBusy}
use Rattle.bus_medium.specs.inside.Lazy.{clocks_of, lazy_seats}
use Rattle.bus_medium.proofs.LazyDecide.{real_stations}
use Rattle.bus_medium.proofs.LazySteps.{rests_idle}
use Rattle.bus_medium.proofs.LazyRuns.{rests_whole, turn_busy, turn_rests}
use Rattle.bus_medium.proofs.turns.turn.Goals as goal
use Rattle.bus_medium.proofs.TimersLemmas.{clocks_long, kept_later}

pub returns-then-start-horizon-clause-reached : goal.returns-then-start-horizon-clause-reached
returns-then-start-horizon-clause-reached g c =
    let n = c.next_start-next in
    let e = c.args.idle.now.ended in
    let at = c.requires.at in
    rests_whole g.C.Core c.args.send_order.now.quiet c.args.horizon c.args.moment n.result.moment c.args.seats.now (clocks_of e c.args.all_timers.now) c.args.list.now.items at c.requires.moment n.ensures.next c.if-start-horizon.true

pub returns-then-start-horizon-clause-kept : goal.returns-then-start-horizon-clause-kept
returns-then-start-horizon-clause-kept g c =
    kept_later c.args.idle.now (c.args.send_order.now.quiet + c.args.moment) (c.args.send_order.now.quiet + c.args.horizon) c.args.all_timers.now (omega (arith, c.requires.moment)) c.requires.kept

pub begin_ready-requires-clause-bus : goal.begin_ready-requires-clause-bus
begin_ready-requires-clause-bus g c =
    let n = c.next_start-next in
    let e = c.args.idle.now.ended in
    let at = c.requires.at in
    let long : length (clocks_of e c.args.all_timers.now) ≡ length c.args.seats.now = at.same_length in
    let high : c.args.send_order.now.quiet + c.next_start-next.result.moment ≤ c.args.send_order.now.quiet + c.args.horizon = n.ensures.next.high in
    record {
      moment = omega (arith, c.requires.horizon, c.if-start-horizon.false);
      send_order = c.requires.send_order;
      long = sym (clocks_long e (length c.args.all_timers.now) c.args.all_timers.now refl) ∙ long;
      kept = kept_later c.args.idle.now (c.args.send_order.now.quiet + c.args.moment) (c.args.send_order.now.quiet + n.result.moment) c.args.all_timers.now
          n.ensures.next.low c.requires.kept;
      at = rests_idle g.C.Core c.args.send_order.now.quiet c.args.horizon c.args.moment n.result.moment c.args.seats.now
          (clocks_of e c.args.all_timers.now) c.args.list.now.items at c.requires.moment n.ensures.next;
    }

pub busy_end-behind-requires-clause-busy : goal.busy_end-behind-requires-clause-busy
busy_end-behind-requires-clause-busy g c =
    let q = c.args.send_order.now.quiet in
    let n = c.next_start-next in
    let s = n.result.moment in
    let e = c.args.idle.now.ended in
    let at = c.requires.at in
    let high : c.args.send_order.now.quiet + c.next_start-next.result.moment ≤ c.args.send_order.now.quiet + c.args.horizon = n.ensures.next.high in
    let before : c.next_start-next.result.moment < c.args.horizon = omega arith in
    let small : c.args.send_order.now.quiet + c.next_start-next.result.moment < 2 ^ 62 = omega arith in
    subst (λ (l : List Entry). IsBusy l c.next_start-next.result.moment c.in_ok-end.end) (sym c.deref.ensures.value)
    (turn_busy g.C.Core q c.args.horizon c.args.moment s c.in_ok-end.end c.args.seats.now (clocks_of e c.args.all_timers.now) (lazy_seats (q + s) c.begin_ready.new.seats (clocks_of e c.begin_ready.new.all_timers)) c.args.list.now.items c.begin_ready.new.list.items
    at c.requires.moment n.ensures.next before small c.in_ok-end.ensures.begun.decided c.in_ok-end.ensures.begun.ended)

pub pass_busy-requires-clause-ended : goal.pass_busy-requires-clause-ended
pass_busy-requires-clause-ended g c =
    let low : c.args.send_order.now.quiet + c.args.moment ≤ c.args.send_order.now.quiet + c.next_start-next.result.moment = c.next_start-next.ensures.next.low in
    let ended : c.args.idle.now.ended ≤ c.args.send_order.now.quiet + c.args.moment = c.requires.kept.ended in
    omega arith

pub pass_busy-requires-clause-order : goal.pass_busy-requires-clause-order
pass_busy-requires-clause-order g c =
    let some : c.next_start-next.result.moment < c.busy_end-behind.result = c.busy_end-behind.ensures.busy.some in
    omega arith

pub returns-clause-stations : goal.returns-clause-stations
returns-clause-stations g c =
    let now = c.args.send_order.now.quiet + c.next_start-next.result.moment in
    let e = c.args.idle.now.ended in
    let d = c.in_ok-end.ensures in
    let ks = clocks_of e c.args.all_timers.now in
    let cs = clocks_of e c.begin_ready.new.all_timers in
    let long : length ks ≡ length c.args.seats.now = c.requires.at.same_length in
    let longs : length cs ≡ length c.begin_ready.new.seats = clocks_long e (length c.args.all_timers.now) c.begin_ready.new.all_timers d.long ∙ sym (clocks_long e (length c.args.all_timers.now) c.args.all_timers.now refl) ∙ long ∙ sym d.begun.moved.same_length in
    real_stations now now c.args.seats.now c.begin_ready.new.seats ks cs long longs d.begun.decided.stations

pub returns-clause-kept : goal.returns-clause-kept
returns-clause-kept g c =
    let some : c.busy_end-behind.result ≤ c.earlier.result = omega (arith, c.busy_end-behind.ensures.most, c.earlier.ensures) in
    kept_later c.pass_busy.new.idle (c.args.send_order.now.quiet + c.busy_end-behind.result) (c.args.send_order.now.quiet + c.earlier.result) c.pass_busy.new.all_timers (omega arith) c.pass_busy.ensures.kept

pub returns-clause-reached : goal.returns-clause-reached
returns-clause-reached g c =
    let q = c.args.send_order.now.quiet in
    let n = c.next_start-next in
    let s = n.result.moment in
    let e = c.args.idle.now.ended in
    let d = c.in_ok-end.ensures in
    let at = c.requires.at in
    let high : c.args.send_order.now.quiet + c.next_start-next.result.moment ≤ c.args.send_order.now.quiet + c.args.horizon = n.ensures.next.high in
    let before : c.next_start-next.result.moment < c.args.horizon = omega arith in
    let small : c.args.send_order.now.quiet + c.next_start-next.result.moment < 2 ^ 62 = omega arith in
    let most : c.busy_end-behind.result ≤ c.earlier.result = omega (arith, c.busy_end-behind.ensures.most, c.earlier.ensures) in
    let ks = clocks_of e c.args.all_timers.now in
    let cs = clocks_of e c.begin_ready.new.all_timers in
    let longs : length cs ≡ length c.begin_ready.new.seats = clocks_long e (length c.args.all_timers.now) c.begin_ready.new.all_timers d.long ∙ sym (clocks_long e (length c.args.all_timers.now) c.args.all_timers.now refl) ∙ at.same_length ∙ sym d.begun.moved.same_length in
    turn_rests g.C.Core q c.args.horizon c.args.moment s c.in_ok-end.end c.busy_end-behind.result c.earlier.result c.args.seats.now c.begin_ready.new.seats ks cs (clocks_of c.pass_busy.new.idle.ended c.pass_busy.new.all_timers)
    c.args.list.now.items c.begin_ready.new.list.items at c.requires.moment n.ensures.next before small longs d.begun.decided d.begun.ended c.pass_busy.ensures.after
    (subst (λ (l : List Entry). IsBusy l s c.busy_end-behind.result) c.deref.ensures.value c.busy_end-behind.ensures.busy) c.earlier.ensures most
    (λ u low high. ap (λ (l : List Entry). carrier l u) (sym c.deref.ensures.value) ∙ c.busy_end-behind.ensures.quiet u low (omega (arith, c.earlier.ensures)))
