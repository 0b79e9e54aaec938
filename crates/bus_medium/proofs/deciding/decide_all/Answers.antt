use Rattle.std.proofs.Common.{◌<◌, ◌+◌, ◌-◌, ◌^◌, length, map, get_or, arith, sym, ◌∙◌, subst}
use Rattle.std.proofs.lemmas.List.{length-set}
use Rattle.std.proofs.lemmas.Option.{slice_get-get_or}
use Rattle.bus_medium.specs.Lawful.{IsLawfulTo}
use Rattle.bus_medium.specs.Buses.{number_of}
use Rattle.bus_medium.specs.Orders.{IsByNumber}
use Rattle.bus_medium.proofs.Seats.{map_set_same, same_numbers}
use Rattle.bus_medium.proofs.DecideLemmas.{no_places, one_place, all_places, places_within, number_in}
use Rattle.bus_medium.proofs.Growing.{grown_none, grown_one}
use Rattle.bus_medium.proofs.deciding.decide_all.Goals as goal

pub loop-place-init : goal.loop-place-init
loop-place-init g c =
    let places = c.deref-place-items in
    record {
      decided = no_places g.C.Core c.args.send_order.now.quiet c.args.moment c.args.seats.now c.args.list.now.items places.result.now c.requires.at.lawful c.requires.at.follow;
      within = places_within c.args.seats.now places.result.now (subst (IsByNumber (map number_of c.args.seats.now)) (sym places.ensures.value) c.requires.send_order.order);
      grown = grown_none c.args.moment c.args.list.now.items;
    }

pub decide_one-requires-clause-number : goal.decide_one-requires-clause-number
decide_one-requires-clause-number g c =
    let so = c.loop-place.invariant.decided.so in
    let i = c.loop-place.place-index in
    let p = get_or c.deref-place-items.result.now i 0 in
    let ys = c.loop-place.seats in
    let within : p < length ys = c.loop-place.invariant.within i (omega arith) in
    number_in c.args.seats.now ys p (get_or ys p c.index-seats-place.result) c.requires.send_order.ranges so.stations so.same_length (slice_get-get_or ys p c.index-seats-place.result within)

pub loop-place-preserved : goal.loop-place-preserved
loop-place-preserved g c =
    let i = c.loop-place.place-index in
    let places = c.deref-place-items.result.now in
    let p = get_or places i 0 in
    let xs = c.args.seats.now in
    let ys = c.loop-place.seats in
    let x = get_or ys p c.index-seats-place.result in
    let y = c.decide_one.new.seat in
    let within : p < length ys = c.loop-place.invariant.within i (omega arith) in
    let by = subst (IsByNumber (map number_of xs)) (sym c.deref-place-items.ensures.value) c.requires.send_order.order in
    record {
      decided = one_place g.C.Core c.args.send_order.now.quiet c.args.moment xs ys c.loop-place.list.items places i p x y by c.loop-place.invariant.decided
          (slice_get-get_or places i 0 (omega arith)) (slice_get-get_or ys p c.index-seats-place.result within) c.in_ok-begun.begun c.in_ok-begun.ensures.begun c.note.new.list.items c.in_ok-note.ensures;
      within = λ k h. let w = c.loop-place.invariant.within k h in omega (arith, length-set ys p y, w);
      grown = grown_one g.C.Core c.args.moment c.args.list.now.items c.loop-place.list.items c.note.new.list.items x y c.in_ok-begun.begun c.loop-place.invariant.grown c.in_ok-begun.ensures.begun c.in_ok-note.ensures;
    }

pub returns-clause-decided : goal.returns-clause-decided
returns-clause-decided g c =
    let places = c.deref-place-items.result.now in
    let xs = c.args.seats.now in
    let ys = c.loop-place.seats in
    let so = c.loop-place.invariant in
    let by = subst (IsByNumber (map number_of xs)) (sym c.deref-place-items.ensures.value) c.requires.send_order.order in
    let all = all_places g.C.Core c.args.send_order.now.quiet c.args.moment xs ys c.loop-place.list.items places c.loop-place.place-index by so.decided c.loop-place-test.false in
    record {
      stations = so.decided.so.stations;
      grown = so.grown;
      lawful = subst (λ ss. IsLawfulTo c.args.send_order.now.quiet ss (c.args.moment + 1) 0 c.loop-place.list.items) (sym so.decided.so.stations) all.0;
      follow = all.1;
      room = so.decided.so.room (2 ^ 62 - c.args.moment) c.requires.at.room;
    }

-- a sender that decided keeps its number
pub returns-in_err-begun-clause-numbers : goal.returns-in_err-begun-clause-numbers
returns-in_err-begun-clause-numbers g c =
    let ys = c.loop-place.seats in
    let p = get_or c.deref-place-items.result.now c.loop-place.place-index 0 in
    let x = get_or ys p c.index-seats-place.result in
    let within : p < length ys = c.loop-place.invariant.within c.loop-place.place-index (omega arith) in
    map_set_same number_of ys p x c.decide_one.new.seat (slice_get-get_or ys p c.index-seats-place.result within) c.in_err-begun.ensures.number ∙ same_numbers c.args.seats.now ys c.loop-place.invariant.decided.so.stations

pub returns-in_err-note-clause-numbers : goal.returns-in_err-note-clause-numbers
returns-in_err-note-clause-numbers g c =
    let ys = c.loop-place.seats in
    let p = get_or c.deref-place-items.result.now c.loop-place.place-index 0 in
    let x = get_or ys p c.index-seats-place.result in
    let within : p < length ys = c.loop-place.invariant.within c.loop-place.place-index (omega arith) in
    map_set_same number_of ys p x c.decide_one.new.seat (slice_get-get_or ys p c.index-seats-place.result within) c.in_ok-begun.ensures.number ∙ same_numbers c.args.seats.now ys c.loop-place.invariant.decided.so.stations

pub returns-clause-numbers : goal.returns-clause-numbers
returns-clause-numbers g c = same_numbers c.args.seats.now c.loop-place.seats c.loop-place.invariant.decided.so.stations
