use Rattle.std.proofs.Common.{◌+◌, ℕ, List, arith, sym, ◌∙◌, subst}
use Rattle.bus_strings.specs.Messages.{Entry}
use Rattle.bus_medium.specs.Orders.{IsSendOrder}
use Rattle.bus_medium.specs.inside.Runs.{Reached}
use Rattle.bus_medium.proofs.Seats.{same_numbers, own_numbers}
use Rattle.bus_medium.proofs.Running.{reached_none, reached_more, reached_lawful, reached_only, reached_stands}
use Rattle.bus_medium.proofs.bit_times.observe_all.Goals as goal

pub loop-moment-init : goal.loop-moment-init
loop-moment-init g c =
    let q = c.args.send_order.now.quiet in
    let xs = c.args.seats.now in
    subst (λ (l : List Entry). Reached g.C.Core q 0 xs xs l) (sym c.new-list.ensures.items) (reached_none g.C.Core q xs c.requires.stands)

pub bit_time-requires-clause-send_order : goal.bit_time-requires-clause-send_order
bit_time-requires-clause-send_order g c =
    subst (λ (ns : List ℕ). IsSendOrder ns c.args.send_order.now.places.items)
    (sym (same_numbers c.args.seats.now c.loop-moment.seats c.loop-moment.invariant.stations)) c.requires.send_order

pub loop-moment-preserved : goal.loop-moment-preserved
loop-moment-preserved g c =
    reached_more g.C.Core c.args.send_order.now.quiet c.loop-moment.moment (c.loop-moment.moment + 1) c.args.seats.now c.loop-moment.seats c.bit_time.new.seats
    c.loop-moment.list.items c.bit_time.new.list.items c.loop-moment.invariant c.in_ok-bit_time.ensures.reached

pub returns-clause-list : goal.returns-clause-list
returns-clause-list g c =
    let q = c.args.send_order.now.quiet in
    let xs = c.args.seats.now in
    let ys = c.loop-moment.seats in
    let l = c.loop-moment.list.items in
    let so = c.loop-moment.invariant in
    record {
      lawful = reached_lawful g.C.Core q c.loop-moment.moment c.args.horizon xs ys l so (omega arith);
      only = reached_only g.C.Core q c.loop-moment.moment c.args.horizon xs ys l (own_numbers xs c.args.send_order.now.places.items c.requires.send_order.order) so (omega arith);
      stands = reached_stands g.C.Core q c.loop-moment.moment c.args.horizon xs ys l so (omega arith) (omega (arith, c.requires.horizon));
      keeps = so.stations;
    }

pub returns-in_err-bit_time-clause-numbers : goal.returns-in_err-bit_time-clause-numbers
returns-in_err-bit_time-clause-numbers g c =
    c.in_err-bit_time.ensures.numbers ∙ same_numbers c.args.seats.now c.loop-moment.seats c.loop-moment.invariant.stations

pub returns-clause-numbers : goal.returns-clause-numbers
returns-clause-numbers g c = same_numbers c.args.seats.now c.loop-moment.seats c.loop-moment.invariant.stations
