use Rattle.std.proofs.Common.{◌<◌, ◌+◌, ◌-◌, ◌^◌, ℕ, List, length, map, get_or, arith, sym, refl, ◌∙◌, subst}
use Rattle.std.proofs.lemmas.List.{length-set}
use Rattle.std.proofs.lemmas.Option.{slice_get-get_or}
use Rattle.bus_medium.specs.Lawful.{IsLawfulTo}
use Rattle.bus_medium.specs.Buses.{number_of}
use Rattle.bus_medium.specs.Orders.{IsByNumber}
use Rattle.bus_medium.specs.declared.timers.Timers.{Timers}
use Rattle.bus_medium.specs.inside.Lazy.{lazy, lazy_seat, lazy_seats, clock_of, clocks_of}
use Rattle.bus_medium.proofs.Seats.{map_set_same, same_numbers}
use Rattle.bus_medium.proofs.DecideLemmas.{DecidedPlaces, no_places, one_place, all_places, places_within, number_in}
use Rattle.bus_medium.proofs.Growing.{grown_none, grown_one}
use Rattle.bus_medium.proofs.LazySeats.{lazy_numbers, lazy_at}
use Rattle.bus_medium.proofs.LazyAlone.{timers_set}
use Rattle.bus_medium.proofs.TimersLemmas.{clock_at, clocks_long, shorter_set}
use Rattle.bus_medium.proofs.LazyDecide.{next_sits, real_stations, moved_none, moved_set, ends_none, ends_more, starts_now}
use Rattle.bus_medium.proofs.starting.begin_all.Goals as goal

pub loop-place-init : goal.loop-place-init
loop-place-init g c =
    let places = c.deref-place-items in
    let now = c.args.send_order.now.quiet + c.args.moment in
    record {
      same_length = refl;
      same_clocks = c.requires.long;
      decided = no_places (lazy g.C.Core c.args.send_order.now.quiet now) c.args.send_order.now.quiet c.args.moment (lazy_seats now c.args.seats.now (clocks_of c.args.idle.now.ended c.args.all_timers.now)) c.args.list.now.items places.result.now
          c.requires.at.lawful c.requires.at.follow;
      within = places_within c.args.seats.now places.result.now (subst (IsByNumber (map number_of c.args.seats.now)) (sym places.ensures.value) c.requires.send_order.order);
      least = c.requires.kept.least;
      grown = grown_none c.args.moment c.args.list.now.items;
      moved = moved_none g.C.Core c.args.seats.now;
      ends = ends_none c.args.moment c.args.list.now.items;
    }

pub begin-requires-clause-number : goal.begin-requires-clause-number
begin-requires-clause-number g c =
    let so = c.loop-place.invariant in
    let now = c.args.send_order.now.quiet + c.args.moment in
    let i = c.loop-place.place-index in
    let p = get_or c.deref-place-items.result.now i 0 in
    let ys = c.loop-place.seats in
    let within : p < length ys = so.within i (omega arith) in
    number_in c.args.seats.now ys p (get_or ys p c.index-seats-place.result) c.requires.send_order.ranges
    (real_stations now now c.args.seats.now ys (clocks_of c.args.idle.now.ended c.args.all_timers.now) (clocks_of c.args.idle.now.ended c.loop-place.all_timers) (clocks_long c.args.idle.now.ended (length c.args.seats.now) c.args.all_timers.now c.requires.long) (clocks_long c.args.idle.now.ended (length c.loop-place.seats) c.loop-place.all_timers so.same_clocks) so.decided.so.stations) so.same_length (slice_get-get_or ys p c.index-seats-place.result within)

pub begin-requires-clause-sits : goal.begin-requires-clause-sits
begin-requires-clause-sits g c =
    let so = c.loop-place.invariant in
    let now = c.args.send_order.now.quiet + c.args.moment in
    let none : Timers = record { sg = 0; tg = 0; told = 0; due = 0; behind = 0; over = 0 } in
    let places = c.deref-place-items.result.now in
    let i = c.loop-place.place-index in
    let p = get_or places i 0 in
    let ys = c.loop-place.seats in
    let ws = c.loop-place.all_timers in
    let cs = clocks_of c.args.idle.now.ended c.loop-place.all_timers in
    let within : p < length ys = so.within i (omega arith) in
    let inside : p < length ws = omega (arith, so.same_clocks) in
    next_sits g.C.Core c.args.send_order.now.quiet c.args.moment (lazy_seats now c.args.seats.now (clocks_of c.args.idle.now.ended c.args.all_timers.now)) ys cs c.loop-place.list.items places i p (get_or ys p c.index-seats-place.result) (clock_of c.args.idle.now.ended (get_or ws p none))
    so.decided (slice_get-get_or places i 0 (omega arith)) (slice_get-get_or ys p c.index-seats-place.result within) (clock_at c.args.idle.now.ended ws p (get_or ws p none) (slice_get-get_or ws p none inside))

pub loop-place-preserved : goal.loop-place-preserved
loop-place-preserved g c =
    let so = c.loop-place.invariant in
    let q = c.args.send_order.now.quiet in
    let t = c.args.moment in
    let now = c.args.send_order.now.quiet + c.args.moment in
    let none : Timers = record { sg = 0; tg = 0; told = 0; due = 0; behind = 0; over = 0 } in
    let places = c.deref-place-items.result.now in
    let i = c.loop-place.place-index in
    let p = get_or places i 0 in
    let xs = lazy_seats now c.args.seats.now (clocks_of c.args.idle.now.ended c.args.all_timers.now) in
    let ys = c.loop-place.seats in
    let ws = c.loop-place.all_timers in
    let cs = clocks_of c.args.idle.now.ended c.loop-place.all_timers in
    let within : p < length ys = so.within i (omega arith) in
    let inside : p < length ws = omega (arith, so.same_clocks) in
    let x = get_or ys p c.index-seats-place.result in
    let w = get_or ws p none in
    let k = clock_of c.args.idle.now.ended (get_or ws p none) in
    let y = c.begin.new.seat in
    let v = c.begin.new.timers in
    let z = clock_of c.args.idle.now.ended c.begin.new.timers in
    let x_at = slice_get-get_or ys p c.index-seats-place.result within in
    let w_at = slice_get-get_or ws p none inside in
    let k_at = clock_at c.args.idle.now.ended ws p w w_at in
    let by = subst (λ (ns : List ℕ). IsByNumber ns places) (sym (lazy_numbers now c.args.seats.now (clocks_of c.args.idle.now.ended c.args.all_timers.now) (clocks_long c.args.idle.now.ended (length c.args.seats.now) c.args.all_timers.now c.requires.long)))
    (subst (IsByNumber (map number_of c.args.seats.now)) (sym c.deref-place-items.ensures.value) c.requires.send_order.order) in
    record {
      same_length = length-set ys p y ∙ so.same_length;
      same_clocks = length-set ws p v ∙ so.same_clocks ∙ sym (length-set ys p y);
      decided = subst (λ w. DecidedPlaces (lazy g.C.Core q now) q t xs w c.note.new.list.items places (i + 1)) (sym (timers_set now c.args.idle.now.ended ys ws p y v))
          (one_place (lazy g.C.Core q now) q t xs (lazy_seats now ys cs) c.loop-place.list.items places i p (lazy_seat now x k) (lazy_seat now y z) by so.decided
          (slice_get-get_or places i 0 (omega arith)) (lazy_at now ys cs p x k x_at k_at) c.in_ok-begun.begun c.in_ok-begun.ensures.begun c.note.new.list.items c.in_ok-note.ensures);
      within = λ j h. let w = so.within j h in omega (arith, length-set ys p y, w);
      least = shorter_set c.args.idle.now.ended c.args.idle.now.least ws p w v so.least w_at c.in_ok-begun.ensures.sg;
      grown = grown_one (lazy g.C.Core q now) t c.args.list.now.items c.loop-place.list.items c.note.new.list.items (lazy_seat now x k) (lazy_seat now y z) c.in_ok-begun.begun so.grown c.in_ok-begun.ensures.begun c.in_ok-note.ensures;
      moved = moved_set g.C.Core c.args.seats.now ys p x y so.moved x_at c.in_ok-begun.ensures.moves;
      ends = ends_more t c.args.list.now.items c.loop-place.list.items c.note.new.list.items c.loop-place.end c.later_end-end.result c.in_ok-begun.begun so.ends c.later_end-end.ensures
          (starts_now (lazy g.C.Core q now) t (lazy_seat now x k) (lazy_seat now y z) c.in_ok-begun.begun c.in_ok-begun.ensures.begun) c.in_ok-note.ensures;
    }

pub returns-clause-begun : goal.returns-clause-begun
returns-clause-begun g c =
    let so = c.loop-place.invariant in
    let q = c.args.send_order.now.quiet in
    let now = c.args.send_order.now.quiet + c.args.moment in
    let places = c.deref-place-items.result.now in
    let xs = lazy_seats now c.args.seats.now (clocks_of c.args.idle.now.ended c.args.all_timers.now) in
    let ys = lazy_seats now c.loop-place.seats (clocks_of c.args.idle.now.ended c.loop-place.all_timers) in
    let by = subst (λ (ns : List ℕ). IsByNumber ns places) (sym (lazy_numbers now c.args.seats.now (clocks_of c.args.idle.now.ended c.args.all_timers.now) (clocks_long c.args.idle.now.ended (length c.args.seats.now) c.args.all_timers.now c.requires.long)))
    (subst (IsByNumber (map number_of c.args.seats.now)) (sym c.deref-place-items.ensures.value) c.requires.send_order.order) in
    let all = all_places (lazy g.C.Core q now) q c.args.moment xs ys c.loop-place.list.items places c.loop-place.place-index by so.decided c.loop-place-test.false in
    record {
      least = so.least;
      decided = record {
        stations = so.decided.so.stations;
        grown = so.grown;
        lawful = subst (λ ss. IsLawfulTo q ss (c.args.moment + 1) 0 c.loop-place.list.items) (sym so.decided.so.stations) all.0;
        follow = all.1;
        room = so.decided.so.room (2 ^ 62 - c.args.moment) c.requires.at.room;
      };
      moved = so.moved;
      ended = so.ends;
    }

pub returns-in_err-begun-clause-numbers : goal.returns-in_err-begun-clause-numbers
returns-in_err-begun-clause-numbers g c =
    let so = c.loop-place.invariant in
    let now = c.args.send_order.now.quiet + c.args.moment in
    let ys = c.loop-place.seats in
    let p = get_or c.deref-place-items.result.now c.loop-place.place-index 0 in
    let x = get_or ys p c.index-seats-place.result in
    let within : p < length ys = so.within c.loop-place.place-index (omega arith) in
    map_set_same number_of ys p x c.begin.new.seat (slice_get-get_or ys p c.index-seats-place.result within) c.in_err-begun.ensures.number
    ∙ same_numbers c.args.seats.now ys (real_stations now now c.args.seats.now ys (clocks_of c.args.idle.now.ended c.args.all_timers.now) (clocks_of c.args.idle.now.ended c.loop-place.all_timers) (clocks_long c.args.idle.now.ended (length c.args.seats.now) c.args.all_timers.now c.requires.long) (clocks_long c.args.idle.now.ended (length c.loop-place.seats) c.loop-place.all_timers so.same_clocks) so.decided.so.stations)

pub returns-in_err-note-clause-numbers : goal.returns-in_err-note-clause-numbers
returns-in_err-note-clause-numbers g c =
    let so = c.loop-place.invariant in
    let now = c.args.send_order.now.quiet + c.args.moment in
    let ys = c.loop-place.seats in
    let p = get_or c.deref-place-items.result.now c.loop-place.place-index 0 in
    let x = get_or ys p c.index-seats-place.result in
    let within : p < length ys = so.within c.loop-place.place-index (omega arith) in
    map_set_same number_of ys p x c.begin.new.seat (slice_get-get_or ys p c.index-seats-place.result within) c.in_ok-begun.ensures.number
    ∙ same_numbers c.args.seats.now ys (real_stations now now c.args.seats.now ys (clocks_of c.args.idle.now.ended c.args.all_timers.now) (clocks_of c.args.idle.now.ended c.loop-place.all_timers) (clocks_long c.args.idle.now.ended (length c.args.seats.now) c.args.all_timers.now c.requires.long) (clocks_long c.args.idle.now.ended (length c.loop-place.seats) c.loop-place.all_timers so.same_clocks) so.decided.so.stations)

pub returns-clause-numbers : goal.returns-clause-numbers
returns-clause-numbers g c =
    let so = c.loop-place.invariant in
    let now = c.args.send_order.now.quiet + c.args.moment in
    same_numbers c.args.seats.now c.loop-place.seats (real_stations now now c.args.seats.now c.loop-place.seats (clocks_of c.args.idle.now.ended c.args.all_timers.now) (clocks_of c.args.idle.now.ended c.loop-place.all_timers) (clocks_long c.args.idle.now.ended (length c.args.seats.now) c.args.all_timers.now c.requires.long) (clocks_long c.args.idle.now.ended (length c.loop-place.seats) c.loop-place.all_timers so.same_clocks) so.decided.so.stations)
