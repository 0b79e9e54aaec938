use Rattle.std.proofs.Common.{◌≡◌, ◌<◌, ◌-◌, ◌*◌, List, length, set, get_or, Some, arith, ap, sym, ◌∙◌, subst}
use Rattle.std.specs.Prelude.{slice_get}
use Rattle.std.proofs.lemmas.List.{with_items_is}
use Rattle.std.proofs.lemmas.Option.{slice_get_within}
use Rattle.bus_strings.specs.Messages.{Entry}
use Rattle.bus_strings.specs.Transmissions.{IsByMoment}
use Rattle.bus_medium.specs.Delays.{cable}
use Rattle.bus_medium.specs.Jumps.{Each}
use Rattle.bus_propagation.specs.declared.seat.Seat.{Seat}
use Rattle.bus_propagation.specs.Numbered.{numbered}
use Rattle.bus_propagation.specs.inside.Hearing.{HaveWords}
use Rattle.bus_propagation.specs.inside.Turns.{KeepsPlace, Follows}
use Rattle.bus_propagation.proofs.RunLemmas.{RunsTo, rank, runs_start, runs_on, ready_to_follow, takes_turn, runs_further, runs_whole, runs_only}
use Rattle.bus_propagation.proofs.observing.observe_delayed.Goals as goal

pub loop-turn-init : goal.loop-turn-init
loop-turn-init c =
    subst (λ (l : List Entry). RunsTo c.args.table.now c.args.hands.items (cable (numbered c.args.places.now)) (numbered c.args.wakes.now) c.args.horizon l c.in_ok-seats.seats.items 0) (sym c.new-list.ensures.items)
    (runs_start c.args.table.now c.args.hands.items (cable (numbered c.args.places.now)) (numbered c.args.wakes.now) c.args.horizon c.in_ok-seats.seats.items c.in_ok-seats.ensures.stations c.in_ok-seats.ensures.seated)

pub next_turn-requires-clause-senders : goal.next_turn-requires-clause-senders
next_turn-requires-clause-senders c =
    let ready = ready_to_follow c.args.table.now c.args.hands.items (cable (numbered c.args.places.now)) (numbered c.args.wakes.now) c.args.horizon c.loop-turn.list.items c.loop-turn.seats.items c.loop-turn.moment c.loop-turn.invariant in
    λ j z at. ready.senders j z (subst (λ (xs : List Seat). slice_get xs j ≡ Some z) c.deref_mut.ensures.value at)

pub next_turn-requires-clause-words : goal.next_turn-requires-clause-words
next_turn-requires-clause-words c =
    let ready = ready_to_follow c.args.table.now c.args.hands.items (cable (numbered c.args.places.now)) (numbered c.args.wakes.now) c.args.horizon c.loop-turn.list.items c.loop-turn.seats.items c.loop-turn.moment c.loop-turn.invariant in
    subst HaveWords (sym c.deref.ensures.value) ready.words

pub next_turn-requires-clause-order : goal.next_turn-requires-clause-order
next_turn-requires-clause-order c =
    let ready = ready_to_follow c.args.table.now c.args.hands.items (cable (numbered c.args.places.now)) (numbered c.args.wakes.now) c.args.horizon c.loop-turn.list.items c.loop-turn.seats.items c.loop-turn.moment c.loop-turn.invariant in
    subst IsByMoment (sym c.deref.ensures.value) ready.order

pub next_turn-requires-clause-place : goal.next_turn-requires-clause-place
next_turn-requires-clause-place c =
    let delay = cable (numbered c.args.places.now) in
    let ready = ready_to_follow c.args.table.now c.args.hands.items delay (numbered c.args.wakes.now) c.args.horizon c.loop-turn.list.items c.loop-turn.seats.items c.loop-turn.moment c.loop-turn.invariant in
    λ j z at. subst (λ (l : List Entry). KeepsPlace delay l z) (sym c.deref.ensures.value) (ready.place j z (subst (λ (xs : List Seat). slice_get xs j ≡ Some z) c.deref_mut.ensures.value at))

pub index_mut-requires : goal.index_mut-requires
index_mut-requires c =
    let new = c.next_turn.new.seats in
    let turn = c.in-Some.ensures.turn.0 in
    let within : c.in-Some.turn.place < length new = slice_get_within new c.in-Some.turn.place turn.seat turn.at in
    let long : length new ≡ c.loop-turn.seats.len = c.next_turn.ensures.follow.same_length ∙ c.deref_mut.ensures.len in
    omega (arith, within, long)

pub begin-requires-clause-sender : goal.begin-requires-clause-sender
begin-requires-clause-sender c =
    let new = c.next_turn.new.seats in
    let long : length new ≡ c.loop-turn.seats.len = c.next_turn.ensures.follow.same_length ∙ c.deref_mut.ensures.len in
    let x = c.index_mut.result.now in
    (takes_turn c.args.table.now c.args.hands.items (cable (numbered c.args.places.now)) (numbered c.args.wakes.now) c.args.horizon c.loop-turn.list.items c.deref.result.now c.loop-turn.seats.items c.deref_mut.result.now new
    c.loop-turn.moment c.in-Some.turn.place c.in-Some.turn.moment x c.deref.ensures.value c.deref_mut.ensures.value c.loop-turn.invariant c.next_turn.ensures.follow c.in-Some.ensures.attended c.in-Some.ensures.turn.0
    (c.index_mut.ensures.value ∙ ap (λ (xs : List Seat). get_or xs c.in-Some.turn.place x) (with_items_is c.loop-turn.seats new long))).sender

pub begin-requires-clause-left : goal.begin-requires-clause-left
begin-requires-clause-left c =
    let new = c.next_turn.new.seats in
    let long : length new ≡ c.loop-turn.seats.len = c.next_turn.ensures.follow.same_length ∙ c.deref_mut.ensures.len in
    let x = c.index_mut.result.now in
    (takes_turn c.args.table.now c.args.hands.items (cable (numbered c.args.places.now)) (numbered c.args.wakes.now) c.args.horizon c.loop-turn.list.items c.deref.result.now c.loop-turn.seats.items c.deref_mut.result.now new
    c.loop-turn.moment c.in-Some.turn.place c.in-Some.turn.moment x c.deref.ensures.value c.deref_mut.ensures.value c.loop-turn.invariant c.next_turn.ensures.follow c.in-Some.ensures.attended c.in-Some.ensures.turn.0
    (c.index_mut.ensures.value ∙ ap (λ (xs : List Seat). get_or xs c.in-Some.turn.place x) (with_items_is c.loop-turn.seats new long))).left

pub loop-turn-smaller : goal.loop-turn-smaller
loop-turn-smaller c =
    let new = c.next_turn.new.seats in
    let long : length new ≡ c.loop-turn.seats.len = c.next_turn.ensures.follow.same_length ∙ c.deref_mut.ensures.len in
    let x = c.index_mut.result.now in
    let list = c.loop-turn.list.items in
    let turn = takes_turn c.args.table.now c.args.hands.items (cable (numbered c.args.places.now)) (numbered c.args.wakes.now) c.args.horizon list c.deref.result.now c.loop-turn.seats.items c.deref_mut.result.now new
    c.loop-turn.moment c.in-Some.turn.place c.in-Some.turn.moment x c.deref.ensures.value c.deref_mut.ensures.value c.loop-turn.invariant c.next_turn.ensures.follow c.in-Some.ensures.attended c.in-Some.ensures.turn.0
    (c.index_mut.ensures.value ∙ ap (λ (xs : List Seat). get_or xs c.in-Some.turn.place x) (with_items_is c.loop-turn.seats new long)) in
    let further = runs_further c.args.table.now c.args.hands.items (cable (numbered c.args.places.now)) (numbered c.args.wakes.now) c.args.horizon list new c.loop-turn.moment c.in-Some.turn.place c.in-Some.turn.moment x c.begin.new.seat
    c.in_ok-begun.begun c.in_ok-seats.ensures.valid c.requires.hands turn c.in-Some.ensures.turn.1 c.in_ok-begun.ensures in
    subst (λ (l : List Entry). 129 * c.args.horizon - rank l < 129 * c.args.horizon - rank list) (sym c.in_ok-push.ensures.items) further.less

pub loop-turn-preserved : goal.loop-turn-preserved
loop-turn-preserved c =
    let table = c.args.table.now in
    let hands = c.args.hands.items in
    let delay = cable (numbered c.args.places.now) in
    let wake = numbered c.args.wakes.now in
    let new = c.next_turn.new.seats in
    let long : length new ≡ c.loop-turn.seats.len = c.next_turn.ensures.follow.same_length ∙ c.deref_mut.ensures.len in
    let x = c.index_mut.result.now in
    let y = c.begin.new.seat in
    let p = c.in-Some.turn.place in
    let u = c.in-Some.turn.moment in
    let list = c.loop-turn.list.items in
    let turn = takes_turn table hands delay wake c.args.horizon list c.deref.result.now c.loop-turn.seats.items c.deref_mut.result.now new
    c.loop-turn.moment p u x c.deref.ensures.value c.deref_mut.ensures.value c.loop-turn.invariant c.next_turn.ensures.follow c.in-Some.ensures.attended c.in-Some.ensures.turn.0
    (c.index_mut.ensures.value ∙ ap (λ (xs : List Seat). get_or xs p x) (with_items_is c.loop-turn.seats new long)) in
    let further = runs_further table hands delay wake c.args.horizon list new c.loop-turn.moment p u x y c.in_ok-begun.begun c.in_ok-seats.ensures.valid c.requires.hands turn c.in-Some.ensures.turn.1 c.in_ok-begun.ensures in
    subst (λ (xs : List Seat). RunsTo table hands delay wake c.args.horizon c.push.new.self.items (set xs p y) u) (sym (with_items_is c.loop-turn.seats new long))
    (subst (λ (l : List Entry). RunsTo table hands delay wake c.args.horizon l (set new p y) u) (sym c.in_ok-push.ensures.items) further.runs)

pub returns-clause-lawful : goal.returns-clause-lawful
returns-clause-lawful c =
    let delay = cable (numbered c.args.places.now) in
    let new = c.next_turn.new.seats in
    let follow = subst (λ (xs : List Seat). Each (Follows delay c.loop-turn.list.items c.loop-turn.moment) xs new) c.deref_mut.ensures.value
    (subst (λ (l : List Entry). Each (Follows delay l c.loop-turn.moment) c.deref_mut.result.now new) c.deref.ensures.value c.next_turn.ensures.follow) in
    runs_whole c.args.table.now c.args.hands.items delay (numbered c.args.wakes.now) c.args.horizon c.loop-turn.list.items new c.loop-turn.moment
    (runs_on c.args.table.now c.args.hands.items delay (numbered c.args.wakes.now) c.args.horizon c.loop-turn.list.items c.loop-turn.seats.items new c.loop-turn.moment c.loop-turn.invariant follow) c.in_default.ensures.turn

pub returns-clause-only : goal.returns-clause-only
returns-clause-only c other =
    let delay = cable (numbered c.args.places.now) in
    let new = c.next_turn.new.seats in
    let follow = subst (λ (xs : List Seat). Each (Follows delay c.loop-turn.list.items c.loop-turn.moment) xs new) c.deref_mut.ensures.value
    (subst (λ (l : List Entry). Each (Follows delay l c.loop-turn.moment) c.deref_mut.result.now new) c.deref.ensures.value c.next_turn.ensures.follow) in
    runs_only c.args.table.now c.args.hands.items delay (numbered c.args.wakes.now) c.args.horizon c.loop-turn.list.items other new c.loop-turn.moment c.in_ok-seats.ensures.valid c.requires.hands
    (runs_on c.args.table.now c.args.hands.items delay (numbered c.args.wakes.now) c.args.horizon c.loop-turn.list.items c.loop-turn.seats.items new c.loop-turn.moment c.loop-turn.invariant follow) c.in_default.ensures.turn
