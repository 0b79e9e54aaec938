use Rattle.std.proofs.Common.{List, ◌<◌, length, arith, ap, sym, ◌∙◌, subst}
use Rattle.std.proofs.lemmas.List.{nil_from_length}
use Rattle.std.specs.Vec.Iter.{into_iter_items}
use Rattle.std.specs.Prelude.{slice_get}
use Rattle.bus_table.specs.Tables.{Hand}
use Rattle.bus_propagation.specs.declared.seat.Seat.{Seat}
use Rattle.bus_propagation.specs.Numbered.{numbered}
use Rattle.bus_propagation.proofs.SeatingLemmas.{IsSeating, hand_within, one_seated, all_seated}
use Rattle.bus_propagation.proofs.seating.seat_all.Goals as goal

pub seat-seat-requires-clause-within : goal.seat-seat-requires-clause-within
seat-seat-requires-clause-within c =
    let table = c.args.table.now in
    let seats = c.loop-hand.seats.items in
    let left = into_iter_items c.next.new.self in
    let wake = numbered c.args.wakes.now in
    let so = subst (λ (hs : List Hand). IsSeating table c.args.hands.items wake seats hs) c.in-Some.ensures.steps.0 c.loop-hand.invariant in
    let k = c.len.ensures ∙ c.loop-hand.seats.ok.0 in
    subst (λ n. n < length table.senders) (sym k) (hand_within table c.args.hands.items wake seats c.in-Some.hand left so)

pub loop-hand-preserved : goal.loop-hand-preserved
loop-hand-preserved c =
    let table = c.args.table.now in
    let wake = numbered c.args.wakes.now in
    let seats = c.loop-hand.seats.items in
    let left = into_iter_items c.next.new.self in
    let so = subst (λ (hs : List Hand). IsSeating table c.args.hands.items wake seats hs) c.in-Some.ensures.steps.0 c.loop-hand.invariant in
    let k = c.len.ensures ∙ c.loop-hand.seats.ok.0 in
    let made = one_seated table c.args.hands.items wake seats c.in-Some.hand left c.seat-seat.result c.senders.ensures.valid so (λ s at. c.seat-seat.ensures s (ap (slice_get table.senders) k ∙ at)) in
    subst (λ (xs : List Seat). IsSeating table c.args.hands.items wake xs left) (sym c.in_ok-push.ensures.items) made

pub returns-clause-stations : goal.returns-clause-stations
returns-clause-stations c =
    let none = nil_from_length (into_iter_items c.loop-hand.hand-iterator) (omega (arith, c.in-None.ensures.steps.0, c.loop-hand.hand-iterator.rest.ok)) in
    all_seated c.args.table.now c.args.hands.items (numbered c.args.wakes.now) c.loop-hand.seats.items (subst (λ (hs : List Hand). IsSeating c.args.table.now c.args.hands.items (numbered c.args.wakes.now) c.loop-hand.seats.items hs) none c.loop-hand.invariant)
