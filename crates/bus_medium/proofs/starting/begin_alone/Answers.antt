use Rattle.std.proofs.Common.{◌≤◌, ◌<◌, ◌+◌, ◌-◌, ◌^◌, ℕ, List, length, set, get_or, arith, sym, refl, ◌∙◌, subst}
use Rattle.std.proofs.lemmas.List.{length-set}
use Rattle.std.proofs.lemmas.Option.{slice_get-get_or}
use Rattle.bus_medium.specs.Lawful.{IsLawfulTo}
use Rattle.bus_medium.specs.Buses.{number_of}
use Rattle.bus_medium.specs.Orders.{IsByNumber}
use Rattle.bus_medium.specs.declared.timers.Timers.{Timers}
use Rattle.bus_medium.specs.inside.Lazy.{lazy, lazy_seat, lazy_seats, clock_of, clocks_of}
use Rattle.bus_medium.proofs.Seats.{map_set_same, get_set_other}
use Rattle.bus_medium.proofs.DecideLemmas.{DecidedPlaces, all_places, number_in}
use Rattle.bus_medium.proofs.Growing.{grown_none, grown_one}
use Rattle.bus_medium.proofs.LazySeats.{lazy_numbers, lazy_at}
use Rattle.bus_medium.proofs.LazyDecide.{follows_sits, moved_none, moved_set, ends_none, ends_more, starts_now}
use Rattle.bus_medium.proofs.LazyAlone.{alone_places, others_idle, timers_set}
use Rattle.bus_medium.proofs.TimersLemmas.{clock_at, clocks_long, shorter_set, alone_within}
use Rattle.bus_medium.proofs.starting.begin_alone.Goals as goal

pub begin-requires-clause-number : goal.begin-requires-clause-number
begin-requires-clause-number g c =
    let p = c.args.place in
    let seats = c.args.seats.now in
    let within : p < length seats = omega (arith, alone_within c.args.idle.now.ended (c.args.send_order.now.quiet + c.args.moment) c.args.all_timers.now p c.requires.alone, c.requires.bus.long) in
    number_in seats seats p (get_or seats p c.index-seats-place.result) c.requires.bus.send_order.ranges refl refl (slice_get-get_or seats p c.index-seats-place.result within)

pub begin-requires-clause-sits : goal.begin-requires-clause-sits
begin-requires-clause-sits g c =
    let q = c.args.send_order.now.quiet in
    let t = c.args.moment in
    let e = c.args.idle.now.ended in
    let p = c.args.place in
    let seats = c.args.seats.now in
    let ws = c.args.all_timers.now in
    let none : Timers = record { sg = 0; tg = 0; told = 0; due = 0; behind = 0; over = 0 } in
    let inside : p < length ws = alone_within e (q + t) ws p c.requires.alone in
    let within : p < length seats = omega (arith, c.requires.bus.long) in
    let x = get_or seats p c.index-seats-place.result in
    let w = get_or ws p none in
    follows_sits g.C.Core q t t x (clock_of e w) c.args.list.now.items refl
    (c.requires.bus.at.follow p (lazy_seat (q + t) x (clock_of e w)) (lazy_at (q + t) seats (clocks_of e ws) p x (clock_of e w) (slice_get-get_or seats p c.index-seats-place.result within) (clock_at e ws p w (slice_get-get_or ws p none inside))))

pub returns-in_err-begun-clause-numbers : goal.returns-in_err-begun-clause-numbers
returns-in_err-begun-clause-numbers g c =
    let p = c.args.place in
    let seats = c.args.seats.now in
    let within : p < length seats = omega (arith, alone_within c.args.idle.now.ended (c.args.send_order.now.quiet + c.args.moment) c.args.all_timers.now p c.requires.alone, c.requires.bus.long) in
    map_set_same number_of seats p (get_or seats p c.index-seats-place.result) c.begin.new.seat (slice_get-get_or seats p c.index-seats-place.result within) c.in_err-begun.ensures.number

pub returns-in_err-note-clause-numbers : goal.returns-in_err-note-clause-numbers
returns-in_err-note-clause-numbers g c =
    let p = c.args.place in
    let seats = c.args.seats.now in
    let within : p < length seats = omega (arith, alone_within c.args.idle.now.ended (c.args.send_order.now.quiet + c.args.moment) c.args.all_timers.now p c.requires.alone, c.requires.bus.long) in
    map_set_same number_of seats p (get_or seats p c.index-seats-place.result) c.begin.new.seat (slice_get-get_or seats p c.index-seats-place.result within) c.in_ok-begun.ensures.number

pub returns-clause-numbers : goal.returns-clause-numbers
returns-clause-numbers g c =
    let p = c.args.place in
    let seats = c.args.seats.now in
    let within : p < length seats = omega (arith, alone_within c.args.idle.now.ended (c.args.send_order.now.quiet + c.args.moment) c.args.all_timers.now p c.requires.alone, c.requires.bus.long) in
    map_set_same number_of seats p (get_or seats p c.index-seats-place.result) c.begin.new.seat (slice_get-get_or seats p c.index-seats-place.result within) c.in_ok-begun.ensures.number

pub returns-clause-others : goal.returns-clause-others
returns-clause-others g c =
    let e = c.args.idle.now.ended in
    let p = c.args.place in
    let ws = c.args.all_timers.now in
    let v = c.begin.new.timers in
    let inside : p < length ws = alone_within e (c.args.send_order.now.quiet + c.args.moment) ws p c.requires.alone in (
      omega (arith, length-set ws p v),
      λ j w apart at. c.requires.bus.kept.each j w (sym (get_set_other ws p j v (λ h. apart (sym h))) ∙ at),
    )

pub returns-clause-begun : goal.returns-clause-begun
returns-clause-begun g c =
    let q = c.args.send_order.now.quiet in
    let t = c.args.moment in
    let now = c.args.send_order.now.quiet + c.args.moment in
    let e = c.args.idle.now.ended in
    let p = c.args.place in
    let seats = c.args.seats.now in
    let ws = c.args.all_timers.now in
    let none : Timers = record { sg = 0; tg = 0; told = 0; due = 0; behind = 0; over = 0 } in
    let inside : p < length ws = alone_within e (q + t) ws p c.requires.alone in
    let within : p < length seats = omega (arith, c.requires.bus.long) in
    let x = get_or seats p c.index-seats-place.result in
    let w = get_or ws p none in
    let k = clock_of e w in
    let y = c.begin.new.seat in
    let v = c.begin.new.timers in
    let z = clock_of e v in
    let places = c.args.send_order.now.places.items in
    let l = c.args.list.now.items in
    let m = c.note.new.list.items in
    let xs = lazy_seats now seats (clocks_of e ws) in
    let ys = lazy_seats now (set seats p y) (clocks_of e (set ws p v)) in
    let long = clocks_long e (length seats) ws c.requires.bus.long in
    let by = subst (λ (ns : List ℕ). IsByNumber ns places) (sym (lazy_numbers now seats (clocks_of e ws) long)) c.requires.bus.send_order.order in
    let at = lazy_at now seats (clocks_of e ws) p x k (slice_get-get_or seats p c.index-seats-place.result within) (clock_at e ws p w (slice_get-get_or ws p none inside)) in
    let d : DecidedPlaces (lazy g.C.Core q now) q t xs ys m places (length places) =
    subst (λ us. DecidedPlaces (lazy g.C.Core q now) q t xs us m places (length places)) (sym (timers_set now e seats ws p y v))
    (alone_places (lazy g.C.Core q now) q t xs l m places p (lazy_seat now x k) (lazy_seat now y z) by c.requires.bus.at.lawful c.requires.bus.at.follow
    (others_idle g.C.Core q t seats (clocks_of e ws) p long c.requires.alone) at c.in_ok-begun.begun c.in_ok-begun.ensures.begun c.in_ok-note.ensures) in
    let all = all_places (lazy g.C.Core q now) q t xs ys m places (length places) by d (let h : length places ≤ length places = omega arith in h) in
    record {
      least = shorter_set e c.args.idle.now.least ws p w v c.requires.bus.kept.least (slice_get-get_or ws p none inside) c.in_ok-begun.ensures.sg;
      decided = record {
        stations = d.so.stations;
        grown = grown_one (lazy g.C.Core q now) t l l m (lazy_seat now x k) (lazy_seat now y z) c.in_ok-begun.begun (grown_none t l) c.in_ok-begun.ensures.begun c.in_ok-note.ensures;
        lawful = subst (λ ss. IsLawfulTo q ss (t + 1) 0 m) (sym d.so.stations) all.0;
        follow = all.1;
        room = d.so.room (2 ^ 62 - t) c.requires.bus.at.room;
      };
      moved = moved_set g.C.Core seats seats p x y (moved_none g.C.Core seats) (slice_get-get_or seats p c.index-seats-place.result within) c.in_ok-begun.ensures.moves;
      ended = ends_more t l l m t c.later_end-end.result c.in_ok-begun.begun (ends_none t l) c.later_end-end.ensures
          (starts_now (lazy g.C.Core q now) t (lazy_seat now x k) (lazy_seat now y z) c.in_ok-begun.begun c.in_ok-begun.ensures.begun) c.in_ok-note.ensures;
    }
