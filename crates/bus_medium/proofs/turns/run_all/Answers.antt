use Rattle.std.proofs.Common.{[], ◌≡◌, ◌≤◌, ◌+◌, ℕ, List, arith, sym, ◌∙◌, subst}
use Rattle.bus_strings.specs.Messages.{Entry}
use Rattle.bus_medium.specs.Orders.{IsSendOrder}
use Rattle.bus_medium.specs.inside.Lazy.{AllSit, clocks_of, AreNoShorter}
use Rattle.bus_medium.proofs.Seats.{same_numbers, own_numbers}
use Rattle.bus_medium.proofs.LazyDecide.{all_sit}
use Rattle.bus_medium.proofs.LazyRuns.{RunSoFar, run_none, run_more, run_lawful, run_only, run_stands, run_keeps, run_moved}
use Rattle.bus_medium.proofs.turns.run_all.Goals as goal

pub loop-moment-init : goal.loop-moment-init
loop-moment-init g c =
    let q = c.args.send_order.now.quiet in
    let xs = c.args.seats.now in
    let ws = c.args.all_timers.now in
    let h = c.settled_idle-idle.result in
    let ended : 0 ≡ c.settled_idle-idle.result.ended = sym c.settled_idle-idle.ensures.ended in
    record {
      so = subst (λ (l : List Entry). RunSoFar g.C.Core q c.args.horizon xs xs (clocks_of h.ended ws) l 0) (sym c.new-list.ensures.items)
          (subst (λ e. RunSoFar g.C.Core q c.args.horizon xs xs (clocks_of e ws) [] 0) ended (run_none g.C.Core q c.args.horizon xs (clocks_of 0 ws) c.requires.stands c.requires.settled));
      kept = record {
        ended = (let e : c.settled_idle-idle.result.ended ≤ c.args.send_order.now.quiet + 0 = omega arith in e);
        least = subst (λ e. AreNoShorter h.least (clocks_of e ws)) ended c.settled_idle-idle.ensures.least;
        each = c.requires.kept;
      };
    }

pub turn-requires-clause-send_order : goal.turn-requires-clause-send_order
turn-requires-clause-send_order g c =
    subst (λ (ns : List ℕ). IsSendOrder ns c.args.send_order.now.places.items)
    (sym (same_numbers c.args.seats.now c.loop-moment.seats c.loop-moment.invariant.so.stations)) c.requires.send_order

pub loop-moment-preserved : goal.loop-moment-preserved
loop-moment-preserved g c =
    let t = c.in_ok-reached.ensures in
    record {
      so = run_more g.C.Core c.args.send_order.now.quiet c.args.horizon c.args.seats.now c.loop-moment.seats c.turn.new.seats (clocks_of c.loop-moment.idle.ended c.loop-moment.all_timers)
          (clocks_of c.turn.new.idle.ended c.turn.new.all_timers) c.loop-moment.list.items c.turn.new.list.items
          c.loop-moment.moment c.in_ok-reached.reached c.loop-moment.invariant.so t.stations t.reached t.moved;
      kept = t.kept;
    }

pub tell_all-requires-clause-sit : goal.tell_all-requires-clause-sit
tell_all-requires-clause-sit g c =
    let within : c.loop-moment.moment ≤ c.args.horizon = c.loop-moment.invariant.so.rests.within in
    subst (λ v. AllSit g.C.Core c.args.send_order.now.quiet v c.loop-moment.seats (clocks_of c.loop-moment.idle.ended c.loop-moment.all_timers))
    (let e : c.args.send_order.now.quiet + c.loop-moment.moment ≡ c.args.send_order.now.quiet + c.args.horizon = omega arith in e)
    (all_sit g.C.Core c.args.send_order.now.quiet c.args.horizon c.loop-moment.moment c.loop-moment.seats (clocks_of c.loop-moment.idle.ended c.loop-moment.all_timers) c.loop-moment.list.items c.loop-moment.invariant.so.rests)

pub returns-clause-list : goal.returns-clause-list
returns-clause-list g c =
    let q = c.args.send_order.now.quiet in
    let h = c.args.horizon in
    let xs = c.args.seats.now in
    let ys = c.loop-moment.seats in
    let ks = clocks_of c.loop-moment.idle.ended c.loop-moment.all_timers in
    let l = c.loop-moment.list.items in
    let t = c.loop-moment.moment in
    let so = c.loop-moment.invariant.so in
    let within : c.loop-moment.moment ≤ c.args.horizon = so.rests.within in
    record {
      lawful = run_lawful g.C.Core q h xs ys ks l t so (omega arith);
      only = run_only g.C.Core q h xs ys ks l t (own_numbers xs c.args.send_order.now.places.items c.requires.send_order.order) so (omega arith);
      stands = run_stands g.C.Core q h xs ys c.tell_all.new.seats ks l t so (omega arith) c.tell_all.ensures;
      keeps = run_keeps g.C.Core q (q + h) ks ys c.tell_all.new.seats so.rests.same_length c.tell_all.ensures ∙ so.stations;
    }

pub returns-clause-moved : goal.returns-clause-moved
returns-clause-moved g c =
    let within : c.loop-moment.moment ≤ c.args.horizon = c.loop-moment.invariant.so.rests.within in
    run_moved g.C.Core c.args.send_order.now.quiet c.args.horizon c.args.seats.now c.loop-moment.seats c.tell_all.new.seats (clocks_of c.loop-moment.idle.ended c.loop-moment.all_timers) c.loop-moment.list.items c.loop-moment.moment c.requires.stands c.loop-moment.invariant.so (omega arith) c.tell_all.ensures

pub returns-in_err-reached-clause-numbers : goal.returns-in_err-reached-clause-numbers
returns-in_err-reached-clause-numbers g c =
    c.in_err-reached.ensures.numbers ∙ same_numbers c.args.seats.now c.loop-moment.seats c.loop-moment.invariant.so.stations

pub returns-clause-numbers : goal.returns-clause-numbers
returns-clause-numbers g c =
    same_numbers c.args.seats.now c.tell_all.new.seats
    (run_keeps g.C.Core c.args.send_order.now.quiet (c.args.send_order.now.quiet + c.args.horizon) (clocks_of c.loop-moment.idle.ended c.loop-moment.all_timers) c.loop-moment.seats c.tell_all.new.seats c.loop-moment.invariant.so.rests.same_length c.tell_all.ensures
    ∙ c.loop-moment.invariant.so.stations)
